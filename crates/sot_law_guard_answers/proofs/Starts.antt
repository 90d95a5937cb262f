-- Where plants are observed first is heard in one way.
use Rattle.std.proofs.Common.{◌≡◌, ◌∙◌, ℕ, ℤ, inl, inr, List, length, refl, sym, ap, subst}
use Rattle.std.specs.Prelude.{◌⊎◌}
use Rattle.sot_lang.specs.TableRules.{MeetsTableRules}
use Rattle.sot_trace.specs.Words.{AreWords}
use Rattle.sot_guard.specs.declared.misheard.Misheard.{Misheard}
use Rattle.sot_guard.specs.declared.misheard.Misheard.TheVariants.{OutOfTurn, TooFar, NotALine, NotDue, AlreadyDrafted, OutsideType, NotSeen}
use Rattle.sot_guard_lines.specs.Sayings.{Saying, StartSaid, IsSaid}
use Rattle.sot_guard_lines.proofs.Sayings.{said_once}
use Rattle.sot_guard_protocol.specs.Talks.{HasLarge}
use Rattle.sot_guard_protocol.specs.Openings.{Starting, with_start, IsNextStart, RefusesStart, TakesStart, IsNoStart}
use Rattle.sot_law_guard_answers.specs.Answers.{HasSmallNumbers, IsSmallLine, StartsAreHeardOnce}

same_point : (k n : ℕ) (x y : List ℤ) → StartSaid k x ≡ StartSaid n y → x ≡ y
same_point k n x y e = cc

-- why what is said is not where the next plant was observed
abbrev StartCause : Starting → Saying → Misheard → Type 0
StartCause a s why =
    ((why ≡ OutOfTurn) × ((point : List ℤ) → IsNextStart a s point → ⊥)) ⊎ ((why ≡ OutsideType) × ((point : List ℤ) × IsNextStart a s point × HasLarge point))

start_cause : (a : Starting) (s : Saying) (why : Misheard) → RefusesStart a s why → StartCause a s why
start_cause a s OutOfTurn r = inl (refl, r)
start_cause a s TooFar r = absurd r
start_cause a s NotALine r = absurd r
start_cause a s NotDue r = absurd r
start_cause a s AlreadyDrafted r = absurd r
start_cause a s OutsideType r = inr (refl, r)
start_cause a s NotSeen r = absurd r

cause_once : (a : Starting) (s : Saying) (v w : Misheard) → StartCause a s v → StartCause a s w → v ≡ w
cause_once a s v w (inl x) (inl y) = x.0 ∙ sym y.0
cause_once a s v w (inl x) (inr (is, (point, next, large))) = absurd (x.1 point next)
cause_once a s v w (inr (is, (point, next, large))) (inl y) = absurd (y.1 point next)
cause_once a s v w (inr x) (inr y) = x.0 ∙ sym y.0

-- what is said is where the next plant was observed
taken_caused : (a : Starting) (s : Saying) (point : List ℤ) (why : Misheard) → HasSmallNumbers s → IsNextStart a s point → StartCause a s why → ⊥
taken_caused a s point why small next (inl x) = x.1 point next
taken_caused a s point why small next (inr (is, (other, next', large))) = subst (λ (x : Saying). HasSmallNumbers x) next' small large

module _ (a : Starting) (line : List ℕ) (rules : MeetsTableRules a.accepted.program) (words : AreWords a.accepted.program) where
  one_saying : (s r : Saying) → IsSaid a.accepted.program line s → IsSaid a.accepted.program line r → s ≡ r
  one_saying s r = said_once a.accepted.program line s r rules words

  taken_once : (b c : Starting) → TakesStart a line b → TakesStart a line c → b ≡ c
  taken_once b c (s, said, (point, next, is)) (r, said', (point', next', is')) =
      let points = same_point (length a.starts) (length a.starts) point point' (sym next ∙ one_saying s r said said' ∙ next') in
      is ∙ ap (with_start a) points ∙ sym is'

  no_start_once : (v w : Misheard) → IsNoStart a line v → IsNoStart a line w → v ≡ w
  no_start_once v w (inl x) (inl y) = x.0 ∙ sym y.0
  no_start_once v w (inl x) (inr (r, said, refuses)) = absurd (x.1 r said)
  no_start_once v w (inr (s, said, refuses)) (inl y) = absurd (y.1 s said)
  no_start_once v w (inr (s, said, refuses)) (inr (r, said', refuses')) =
      cause_once a r v w (subst (λ (x : Saying). StartCause a x v) (one_saying s r said said') (start_cause a s v refuses)) (start_cause a r w refuses')

  taken_or_not : IsSmallLine a.accepted.program line → (b : Starting) (why : Misheard) → TakesStart a line b → IsNoStart a line why → ⊥
  taken_or_not small b why (s, said, (point, next, is)) (inl none) = none.1 s said
  taken_or_not small b why (s, said, (point, next, is)) (inr (r, said', refuses)) =
      let same = one_saying s r said said' in
      taken_caused a r point why (small r said') (subst (λ (x : Saying). IsNextStart a x point) same next) (start_cause a r why refuses)

pub starts_once : StartsAreHeardOnce
starts_once a line rules words = record {
  taken = taken_once a line rules words;
  cause = no_start_once a line rules words;
  either = taken_or_not a line rules words;
}
