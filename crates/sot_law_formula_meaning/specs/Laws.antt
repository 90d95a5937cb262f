-- A formula's text means one formula.
use Rattle.std.specs.Prelude.{◌≡◌, ℕ, List}
use Rattle.sot_lang.specs.Tables.{Tables}
use Rattle.sot_lang.specs.TableRules.{MeetsTableRules}
use Rattle.sot_formula.specs.Formulas.{Formula}
use Rattle.sot_formula.specs.Phrases.{Phrase, IsFormulaText}
use Rattle.sot_formula.specs.Meanings.{Means}

abbrev pub TextsMeanOnce : Type 0
TextsMeanOnce =
    (p : Tables) (bytes : List ℕ) (f g : Phrase) (x y : Formula) → MeetsTableRules p
    → IsFormulaText bytes f → IsFormulaText bytes g → Means p f x → Means p g y → x ≡ y
