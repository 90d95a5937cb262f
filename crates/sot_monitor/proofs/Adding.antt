-- One moment more.
use Rattle.std.proofs.Common.{◌≡◌, ◌∙◌, ℕ, ◌+◌, ◌<◌, ◌≤◌, ◌↔◌, ⊎_elim, Bool, true, false, List, [], ◌∷◌, ◌++◌, length, map}
use Rattle.std.proofs.Common.{refl, sym, ap, subst, arith, append_assoc}
use Rattle.std.specs.Prelude.{drop, IsTrue, MatchBool}
use Rattle.std.proofs.lemmas.Bool.{cases_lt}
use Rattle.sot_lists.specs.Places.{At}
use Rattle.sot_lists.proofs.Places.{drop_at}
use Rattle.sot_lang.specs.Tables.{Tables}
use Rattle.sot_world.specs.HistoryEntry.{Logged, InputAt, FireAt, DecideAt, TickAt}
use Rattle.sot_formula.specs.Formulas.{Formula}
use Rattle.sot_history_state.specs.Scenes.{Scene, after, moments}
use Rattle.sot_monitor.specs.Holding.{Moment, Holds, AlwaysHolds, FirstFails}
use Rattle.sot_monitor.proofs.Before.{before, length_end}
use Rattle.sot_monitor.specs.Moments.{number_in}
use Rattle.sot_monitor.specs.Seen.{seen_before}

-- one moment more at which a formula holds
holds_more : (front : List Moment) (s : Moment) (f : Formula) → AlwaysHolds front f → Holds (front ++ s ∷ []) f (length front) → AlwaysHolds (front ++ s ∷ []) f
holds_more front s f always now i lt =
    ⊎_elim
    (λ (early : i < length front). (before front (s ∷ []) f i early).1 (always i early))
    (λ (late : length front ≤ i).
    (let n = length_end front s in let same : length front ≡ i = omega (arith, lt, late, n) in subst (Holds (front ++ s ∷ []) f) same now))
    (cases_lt i (length front))

longer : (xs rest : List Moment) (s : Moment) → length xs < length (xs ++ s ∷ rest)
longer [] rest s = omega arith
longer (x ∷ xs) rest s = (let e = longer xs rest s in omega (arith, e))

-- the first at which it does not, whatever comes behind
fails_here : (front rest : List Moment) (s : Moment) (f : Formula) → AlwaysHolds front f → (Holds (front ++ s ∷ []) f (length front) → ⊥)
    → FirstFails (front ++ s ∷ rest) f (length front)
fails_here front rest s f always fails =
    let n = length_end front s in
    let same : (front ++ s ∷ []) ++ rest ≡ front ++ s ∷ rest = append_assoc front (s ∷ []) rest in
    let inside : length front < length (front ++ s ∷ []) = omega (arith, n) in
    record {
      there = longer front rest s;
      fails = λ h. fails ((before (front ++ s ∷ []) rest f (length front) inside).0 (subst (λ (Ms : List Moment). Holds Ms f (length front)) (sym same) h));
      before = λ i lt. (before front (s ∷ rest) f i lt).1 (always i lt);
    }

-- the answer of a step as a verdict
pub by_answer : (b : Bool) (front rest : List Moment) (s : Moment) (f : Formula) → IsTrue b ↔ Holds (front ++ s ∷ []) f (length front) → AlwaysHolds front f
    → MatchBool b (AlwaysHolds (front ++ s ∷ []) f) (FirstFails (front ++ s ∷ rest) f (length front))
by_answer true front rest s f iff always = holds_more front s f always (iff.0 refl)
by_answer false front rest s f iff always = fails_here front rest s f always (λ h. absurd (let e = iff.1 h in cc))

-- the moments from an entry on
with_entry : (p : Tables) (s : Scene) (e : Logged) (es : List Logged) → map number_in (moments p s (e ∷ es))
    ≡ seen_before s e ++ map number_in (moments p (after p e s) es)
with_entry p s (TickAt time noise states) es = refl
with_entry p s (InputAt time topic value) es = refl
with_entry p s (FireAt time n draft enabled) es = refl
with_entry p s (DecideAt time m mode) es = refl

pub from_entry : (p : Tables) (s : Scene) (es : List Logged) (i : ℕ) (e : Logged) → At es i e
    → map number_in (moments p s (drop i es)) ≡ seen_before s e ++ map number_in (moments p (after p e s) (drop (i + 1) es))
from_entry p s es i e at = ap (λ (xs : List Logged). map number_in (moments p s xs)) (drop_at es i e at) ∙ with_entry p s e (drop (i + 1) es)

-- no moment is none at which a formula fails
pub none_fails : (f : Formula) → AlwaysHolds [] f
none_fails f i lt = absurd (omega (arith, lt))

pub same_verdict : (Ms Ns : List Moment) (f : Formula) (t n : ℕ) → Ms ≡ Ns → t ≡ n → FirstFails Ns f n → FirstFails Ms f t
same_verdict Ms Ns f t n moments place fails = subst (FirstFails Ms f) (sym place) (subst (λ (Ls : List Moment). FirstFails Ls f n) (sym moments) fails)
