-- Worked texts, as a statement that a function of this crate proves.
use Rattle.std.specs.Prelude.{◌++◌, codes}
use Rattle.sot_sections.specs.SectionExamples.{line}
use Rattle.sot_certified_text.specs.Plain.{EndsLine, IsPlain}

-- a line end counts at the end of the text alone, and '%' at the beginning of a line alone, behind
-- no blank
abbrev pub Lines : Type 0
Lines =
    EndsLine (codes "") × EndsLine (line (codes "a") ++ line (codes "b"))
    × (EndsLine (line (codes "a") ++ codes "b") → ⊥)
    × IsPlain (codes "") × IsPlain (line (codes "a % b") ++ codes " %c")
    × (IsPlain (codes "%c") → ⊥) × (IsPlain (line (codes "a") ++ line (codes "%")) → ⊥)
