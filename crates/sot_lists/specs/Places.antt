-- Lists and their places, which count from 0.
use Rattle.std.specs.Prelude.{◌≡◌, ℕ, List, Some, slice_get}

-- x stands in the list at place k
abbrev pub At : {A : Type 0} → List A → ℕ → A → Type 0
At xs k x = slice_get xs k ≡ Some x

-- x is in the list
abbrev pub Has : {A : Type 0} → List A → A → Type 0
Has xs x = (k : ℕ) × At xs k x
