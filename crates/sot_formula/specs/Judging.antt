-- What was read of a whole text.
use Rattle.std.specs.Prelude.{◌≡◌, ℕ, Bool, true, false, List, [], ◌∷◌, Option, None, Some, Ok}
use Rattle.sot_text.specs.Ahead.{Ahead, ahead_from}
use Rattle.sot_lang.specs.Tables.{Tables}
use Rattle.sot_formula.specs.declared.fail.MonitorFail.{MonitorFail}
use Rattle.sot_formula.specs.declared.fail.MonitorFail.TheVariants as fails
use Rattle.sot_formula.specs.Reading.{Laid, none_laid, formula_at}
use Rattle.sot_formula.specs.Answers.{IsNoFormula}

abbrev pub is_none : {A : Type 0} → Option A → Bool
is_none None = true
is_none (Some x) = false

-- the text ends where its tokens do
abbrev pub is_ended : Ahead → Bool
is_ended ahead = elim ahead.tokens as (λ x. Bool) [ [] ↦ is_none ahead.end | ◌∷◌ t ts ↦ false ]

-- all tokens of a text are read, and leave these parts
abbrev pub IsAllRead : Tables → List ℕ → Laid → Type 0
IsAllRead p bytes s =
    (formula_at p 64 none_laid (ahead_from bytes 0).tokens ≡ Ok (s, []))
    × ((ahead_from bytes 0).end ≡ None)

abbrev pub RefusesAll : List ℕ → MonitorFail → Type 0
RefusesAll bytes fails.Form = IsNoFormula bytes
RefusesAll bytes fails.Memory = Unit {0}
RefusesAll bytes fails.Unknown = ⊥
RefusesAll bytes fails.ScaleDiffers = ⊥

-- the first cause of two flags
abbrev pub RefusesParts : Laid → MonitorFail → Type 0
RefusesParts s fails.Unknown = s.unknown ≡ true
RefusesParts s fails.ScaleDiffers = (s.unknown ≡ false) × (s.differs ≡ true)
RefusesParts s fails.Form = ⊥
RefusesParts s fails.Memory = ⊥
