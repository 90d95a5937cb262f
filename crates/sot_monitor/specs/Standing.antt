-- What is kept of a formula over moments: a number for each of its parts.
use Rattle.std.specs.Prelude.{ℕ, zero, suc, true, List, [], ◌∷◌, ◌++◌, slice_index_or, ◌≡◌, ◌≢◌}
use Rattle.std.specs.Prelude.{◌⊎◌, ◌<◌, ◌≤◌, ◌+◌, length}
use Rattle.sot_formula.specs.declared.what.What.{What}
use Rattle.sot_formula.specs.declared.what.What.TheVariants as whats
use Rattle.sot_formula.specs.Formulas.{Formula}
use Rattle.sot_formula.specs.Parts.{IsPart}
use Rattle.sot_monitor.specs.Holding.{Moment, Compares, together, Holds}

-- one more than the last moment at which it held, or 0
abbrev pub IsLast : List Moment → Formula → ℕ → Type 0
IsLast Ms f zero = (j : ℕ) → j < length Ms → Holds Ms f j → ⊥
IsLast Ms f (suc l) =
    (l < length Ms) × Holds Ms f l × ((j : ℕ) → l < j → j < length Ms → Holds Ms f j → ⊥)

abbrev pub last_of : List ℕ → ℕ → ℕ
last_of lasts k = slice_index_or lasts k 0

-- the numbers of the parts are right for these moments
abbrev pub AreLasts : List What → List ℕ → List Moment → Type 0
AreLasts ws lasts Ms = (i : ℕ) (f : Formula) → IsPart ws i f → IsLast Ms f (last_of lasts i)

-- numbers of the parts that are right for so many moments stay right, if this moment comes behind
-- them
abbrev pub StepsOn : List What → List ℕ → List ℕ → ℕ → Moment → Type 0
StepsOn ws old new added s =
    (Ms : List Moment) → length Ms ≡ added → AreLasts ws old Ms → AreLasts ws new (Ms ++ s ∷ [])

-- by the numbers of its parts a part holds now, where so many moments came before
abbrev pub NowBy : What → ℕ → List ℕ → ℕ → Moment → Type 0
NowBy (whats.Truth value) own lasts added s = value ≡ true
NowBy (whats.Compared of by number) own lasts added s = Compares by (s of) number
NowBy (whats.Against of by other) own lasts added s = Compares by (s of) (s other)
NowBy (whats.Paired first pairing second by number) own lasts added s =
    Compares by (together pairing (s first) (s second)) number
NowBy (whats.Not k) own lasts added s = last_of lasts k ≢ suc added
NowBy (whats.And k n) own lasts added s =
    (last_of lasts k ≡ suc added) × (last_of lasts n ≡ suc added)
NowBy (whats.Or k n) own lasts added s =
    (last_of lasts k ≡ suc added) ⊎ (last_of lasts n ≡ suc added)
NowBy (whats.Implies k n) own lasts added s =
    last_of lasts k ≡ suc added → last_of lasts n ≡ suc added
NowBy (whats.Once k) own lasts added s = 0 < last_of lasts k
NowBy (whats.Always k) own lasts added s = (last_of lasts k ≡ suc added) × (own ≡ added)
NowBy (whats.Since k n) own lasts added s =
    (last_of lasts n ≡ suc added) ⊎ ((last_of lasts k ≡ suc added) × (0 < own) × (own ≡ added))
NowBy (whats.Within ticks k) own lasts added s =
    (0 < last_of lasts k) × (suc added ≤ last_of lasts k + ticks)
