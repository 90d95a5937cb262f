-- The lines of a text without their line ends.
use Rattle.std.specs.Prelude.{◌≡◌, ℕ, suc, List, [], ◌∷◌, ◌==◌, if◌then◌else◌, map, slice_index_or}
use Rattle.std.specs.Prelude.{length, ◌-◌, Option, Some, None}
use Rattle.sot_text.specs.LineEnds.{lines, without_last}

-- whether a line ends with an LF: the last line of a text may have none
abbrev pub last_of : List ℕ → ℕ
last_of line = slice_index_or line (length line - 1) 0

-- a line without its line end, which is an LF together with a CR directly before it
abbrev pub without_end : List ℕ → List ℕ
without_end line = if last_of line == 10 then without_last 13 (without_last 10 line) else line

-- the lines of a text, each without its line end
abbrev pub lent_lines : List ℕ → List (List ℕ)
lent_lines bytes = map without_end (lines bytes)

-- the lines that are still to come, and the number that the next of them has, or would have
pub record Lending : Type 0 where
  pub to_come : List (List ℕ)
  pub number : ℕ

-- nothing is lent where nothing is to come; else the first line, with its number
abbrev pub Lends : Lending → Option (ℕ × List ℕ) → Lending → Type 0
Lends old None new = (old.to_come ≡ []) × (new ≡ old)
Lends old (Some l) new =
    (old.to_come ≡ l.1 ∷ new.to_come) × (l.0 ≡ old.number) × (new.number ≡ suc old.number)
