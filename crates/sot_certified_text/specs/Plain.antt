-- Texts of whole lines, of which none is a section line.
use Rattle.std.specs.Prelude.{◌≡◌, ℕ, ◌⊎◌, List, [], ◌∷◌, ◌++◌}
use Rattle.sot_text.specs.LineEnds.{lines}
use Rattle.sot_sections.specs.Sections.{division}
use Rattle.sot_syntax_tree.specs.Trees.{Program}
use Rattle.sot_syntax_tree.specs.Formed.{IsFormed}
use Rattle.sot_print.specs.Canonical.{canonical}

-- a text is empty, or ends with a line end
abbrev pub EndsLine : List ℕ → Type 0
EndsLine text = (text ≡ []) ⊎ ((before : List ℕ) × (text ≡ before ++ 10 ∷ []))

-- no line of a text is a section line
abbrev pub IsPlain : List ℕ → Type 0
IsPlain text = (division 1 (lines text)).sections ≡ []

-- the canonical text of each formed program is so
abbrev pub CanonicalTextsArePlain : Type 0
CanonicalTextsArePlain = (p : Program) → IsFormed p → EndsLine (canonical p) × IsPlain (canonical p)
