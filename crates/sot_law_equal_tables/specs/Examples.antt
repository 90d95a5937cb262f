-- Worked expressions and statements that are the same without places, or not, as statements that a
-- function of this crate proves.
use Rattle.std.specs.Prelude.{◌≡◌, pos}
use Rattle.sot_text.specs.declared.token.Span.{Span}
use Rattle.sot_syntax_tree.specs.declared.operator.Op.TheVariants.{Add, Sub}
use Rattle.sot_typing.specs.Formulas.{Formula, number, place, binary, rescaled, Deed, assigned}
use Rattle.sot_typing.specs.Formulas.{published}
use Rattle.sot_law_equal_tables.specs.UnplacedTables.{unplaced_formula, unplaced_deed}

abbrev pub sum : Span → Formula
sum at = binary Add (place 0) (number (pos 1)) at

-- places do not count
abbrev pub PlacesDoNotCount : Type 0
PlacesDoNotCount =
    (at w : Span) → (unplaced_formula (sum at) ≡ unplaced_formula (sum w))
    × (unplaced_deed (assigned 2 (sum at) at) ≡ unplaced_deed (assigned 2 (sum w) w))

abbrev pub AreOtherFormulas : Formula → Formula → Type 0
AreOtherFormulas a b = unplaced_formula a ≡ unplaced_formula b → ⊥

abbrev pub AreOtherDeeds : Deed → Deed → Type 0
AreOtherDeeds a b = unplaced_deed a ≡ unplaced_deed b → ⊥

-- operators, operands with their order, and scales count
abbrev pub OperandsCount : Type 0
OperandsCount =
    (at : Span) → AreOtherFormulas (sum at) (binary Sub (place 0) (number (pos 1)) at)
    × AreOtherFormulas (sum at) (binary Add (place 1) (number (pos 1)) at)
    × AreOtherFormulas (sum at) (binary Add (number (pos 1)) (place 0) at)
    × AreOtherFormulas (rescaled (place 0) 1 2 at) (rescaled (place 0) 1 3 at)

-- the target of a statement counts, and whether it is a local or a topic
abbrev pub TargetsCount : Type 0
TargetsCount =
    (at : Span) → AreOtherDeeds (assigned 2 (sum at) at) (assigned 3 (sum at) at)
    × AreOtherDeeds (assigned 2 (sum at) at) (published 2 (sum at) at)
