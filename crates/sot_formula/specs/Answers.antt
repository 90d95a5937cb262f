-- What `read` answers.
use Rattle.std.specs.Prelude.{ℕ, ◌-◌, ◌≡◌, List, length}
use Rattle.sot_lang.specs.Tables.{Tables}
use Rattle.sot_lang.specs.TableRules.{MeetsTableRules}
use Rattle.sot_formula.specs.declared.fail.MonitorFail.{MonitorFail}
use Rattle.sot_formula.specs.declared.fail.MonitorFail.TheVariants as fails
use Rattle.sot_formula.specs.declared.what.What.{What}
use Rattle.sot_formula.specs.Formulas.{Formula}
use Rattle.sot_formula.specs.Phrases.{Phrase, IsFormulaText}
use Rattle.sot_formula.specs.Meanings.{Means, HasUnknown, HasOtherScale}
use Rattle.sot_formula.specs.Parts.{IsPart, part_count, ArePlaced, AreThere}

-- the bytes are the text of a formula that has a meaning, which is the last of these parts; no part
-- is besides those of the formula, and the program has all that they compare
pub record IsRead (p : Tables) (bytes : List ℕ) (ws : List What) : Type 0 where
  pub phrase : Phrase
  pub formula : Formula
  pub text : IsFormulaText bytes phrase
  pub means : Means p phrase formula
  pub whole : IsPart ws (length ws - 1) formula
  pub count : length ws ≡ part_count formula
  pub placed : ArePlaced ws
  pub there : AreThere p ws

-- the bytes are the text of no formula
abbrev pub IsNoFormula : List ℕ → Type 0
IsNoFormula bytes = (f : Phrase) → IsFormulaText bytes f → ⊥

-- the bytes are the text of a formula, and some reference in it names nothing
pub record IsUnknown (p : Tables) (bytes : List ℕ) : Type 0 where
  pub phrase : Phrase
  pub text : IsFormulaText bytes phrase
  pub unknown : HasUnknown p phrase

-- the bytes are the text of a formula, each reference in it names something, and some comparison
-- has two scales
pub record IsOfOtherScale (p : Tables) (bytes : List ℕ) : Type 0 where
  pub phrase : Phrase
  pub text : IsFormulaText bytes phrase
  pub known : HasUnknown p phrase → ⊥
  pub differs : HasOtherScale p phrase

-- why there is none; that the causes exclude each other is a law
abbrev pub Refuses : Tables → List ℕ → MonitorFail → Type 0
Refuses p bytes fails.Form = IsNoFormula bytes
Refuses p bytes fails.Unknown = IsUnknown p bytes
Refuses p bytes fails.ScaleDiffers = IsOfOtherScale p bytes
Refuses p bytes fails.Memory = Unit {0}

-- where some formula of the text has a meaning, no formula of the text has an unknown reference or
-- a comparison of two scales; and where one has an unknown reference, all have
pub record CausesExclude (p : Tables) (bytes : List ℕ) (f g : Phrase) : Type 0 where
  pub known : (x : Formula) → Means p f x → HasUnknown p g → ⊥
  pub same : (x : Formula) → Means p f x → HasOtherScale p g → ⊥
  pub unknown : HasUnknown p f → HasUnknown p g

abbrev pub CausesExcludeEachOther : Type 0
CausesExcludeEachOther =
    (p : Tables) (bytes : List ℕ) (f g : Phrase) → MeetsTableRules p → IsFormulaText bytes f
    → IsFormulaText bytes g → CausesExclude p bytes f g
