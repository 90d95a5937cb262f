-- What is waited for: the next line of a source.
use Rattle.std.specs.Prelude.{◌≡◌, ℕ, ◌==◌, ◌++◌, List, [], Bool, true, false, Option, length}
use Rattle.std.specs.List.{list_any}
use Rattle.std.specs.Io.KnownBytes.{Consumes, IsAtEnd}
use Rattle.sot_text.specs.LineEnds.{line_len}
use Rattle.sot_guard_input.specs.declared.waited.Waited.{Waited}
use Rattle.sot_guard_input.specs.declared.waited.Waited.TheVariants.{Line, Last, TooLong}

-- the most bytes of a line, with its line end
abbrev pub longest : ℕ
longest = 65536

-- a line end, LF, stands among the bytes
abbrev pub has_end : List ℕ → Bool
has_end bytes = list_any (λ b. b == 10) bytes

-- what came: a whole line, with so many bytes up to its line end; no further line end, and the
-- source is at its end; or as many bytes as a line may have and no line end among them
abbrev pub Waits : Waited → List ℕ → Option (List ℕ) → Type 0
Waits (Line len) bytes left = (has_end bytes ≡ true) × (len ≡ line_len bytes)
Waits Last bytes left = (has_end bytes ≡ false) × IsAtEnd left
Waits TooLong bytes left = (has_end bytes ≡ false) × (length bytes ≡ longest)

-- bytes of the source came behind those that waited: none where a line was there already
pub record Comes (left left_after : Option (List ℕ)) (waiting waiting_after : List ℕ) : Type 0 where
  pub bytes : List ℕ
  pub taken : Consumes left left_after bytes
  pub kept : waiting_after ≡ waiting ++ bytes
  pub no_more : has_end waiting ≡ true → bytes ≡ []

-- so many bytes of the source came behind those that waited, none only at its end
pub record Arrives (left left_after : Option (List ℕ)) (waiting waiting_after : List ℕ) (count : ℕ)
    : Type 0 where
  pub bytes : List ℕ
  pub count_is : length bytes ≡ count
  pub taken : Consumes left left_after bytes
  pub kept : waiting_after ≡ waiting ++ bytes
  pub last : count ≡ 0 → IsAtEnd left_after
