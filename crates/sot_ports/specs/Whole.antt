-- What is read to a source's end, or too far.
use Rattle.std.specs.Prelude.{◌≡◌, ℕ, ◌≤◌, List, [], Option, None, Some, length}
use Rattle.std.specs.Io.KnownBytes.{Consumes, IsAtEnd}

-- these are all the bytes that a source had left, where it tells them, and none is left
abbrev pub ReadsAll : Option (List ℕ) → Option (List ℕ) → List ℕ → Type 0
ReadsAll None after bytes = IsAtEnd after
ReadsAll (Some left) after bytes = (left ≡ bytes) × (after ≡ Some [])

-- exactly this many bytes were taken from the front of what a source had left
abbrev pub ReadsCount : Option (List ℕ) → Option (List ℕ) → ℕ → Type 0
ReadsCount before after count =
    (bytes : List ℕ) × (length bytes ≡ count) × Consumes before after bytes

-- at most this many bytes were taken from the front of what a source had left
abbrev pub ReadsUpTo : Option (List ℕ) → Option (List ℕ) → ℕ → Type 0
ReadsUpTo before after most = (bytes : List ℕ) × (length bytes ≤ most) × Consumes before after bytes
