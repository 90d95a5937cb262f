-- What a monitor stands for.
use Rattle.std.specs.Prelude.{◌≡◌, ℕ, ◌-◌, List, [], length, replicate}
use Rattle.sot_lang.specs.Tables.{Tables}
use Rattle.sot_formula.specs.declared.what.What.{What}
use Rattle.sot_formula.specs.Formulas.{Formula}
use Rattle.sot_formula.specs.Phrases.{Phrase, IsFormulaText}
use Rattle.sot_formula.specs.Meanings.{Means}
use Rattle.sot_formula.specs.Parts.{IsPart, AreThere}
use Rattle.sot_monitor.specs.Holding.{Moment}
use Rattle.sot_monitor.specs.Standing.{AreLasts}
use Rattle.sot_monitor.specs.Tracked.{Tracked}

-- a monitor of a formula stands for these moments: the formula is its last part, and the number of
-- each part is right for them
pub record StandsFor (m : Tracked) (f : Formula) (Ms : List Moment) : Type 0 where
  pub whole : IsPart m.whats (length m.whats - 1) f
  pub added : m.added ≡ length Ms
  pub lasts : AreLasts m.whats m.lasts Ms

-- of these parts, with no moment added
abbrev pub new_of : List What → Tracked
new_of ws = record { whats = ws; lasts = replicate (length ws) 0; added = 0 }

-- a new monitor of the formula that these bytes spell, all of whose quantities the program has
pub record IsNewOf (p : Tables) (bytes : List ℕ) (m : Tracked) : Type 0 where
  pub phrase : Phrase
  pub formula : Formula
  pub text : IsFormulaText bytes phrase
  pub means : Means p phrase formula
  pub stands : StandsFor m formula []
  pub there : AreThere p m.whats
