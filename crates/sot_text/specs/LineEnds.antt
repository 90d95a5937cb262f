-- The lines of a text, and their ends.
use Rattle.std.specs.Prelude.{ℕ, suc, List, [], ◌∷◌, ◌==◌, if◌then◌else◌}

-- a byte in front of lines belongs to the first of them
abbrev pub onto_first : ℕ → List (List ℕ) → List (List ℕ)
onto_first b [] = (b ∷ []) ∷ []
onto_first b (l ∷ ls) = (b ∷ l) ∷ ls

-- the lines of a text, each with its line end (LF); the last may have none
abbrev pub lines : List ℕ → List (List ℕ)
lines [] = []
lines (b ∷ bs) = if b == 10 then (b ∷ []) ∷ lines bs else onto_first b (lines bs)

-- how many bytes the first line has, with its line end
abbrev pub line_len : List ℕ → ℕ
line_len [] = 0
line_len (b ∷ bs) = if b == 10 then 1 else suc (line_len bs)

-- a text without this byte at its end, if it stands there
abbrev pub without_last : ℕ → List ℕ → List ℕ
without_last c [] = []
without_last c (b ∷ []) = if b == c then [] else b ∷ []
without_last c (b ∷ d ∷ bs) = b ∷ without_last c (d ∷ bs)
