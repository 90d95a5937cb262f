-- Due, until and the tick without jitter.
use Rattle.std.proofs.Common.{◌≡◌, ⊎_elim, sym, subst, ◌∙◌, arith}
use Rattle.std.proofs.lemmas.Bool.{cases_Bool, false≢true}
use Rattle.sot_calendar.specs.Due.{IsDue, IsDueIn}
use Rattle.sot_calendar.proofs.Clock.{last_now, last_same}
use Rattle.sot_world.specs.Configurations.{is_left, is_left_dm}
use Rattle.sot_world.specs.Calendar.{LeftIsDue, LeftIsNow, NotLeftIsNext, TicksWhereNothingIsLeft}

pub left_is_due : LeftIsDue
left_is_due p o t = (
  (λ s. let e : s.0 ≡ t = omega (arith, s.1.past, s.2) in subst (IsDue p o) e s.1.due),
  (λ d. (t, last_now p o t d, omega arith)),
)

pub until_left : LeftIsNow
until_left p o t r d = (
  (λ u. let e = last_same p o t u.0 t u.1 (last_now p o t d) in omega (arith, u.2)),
  (λ z. (t, last_now p o t d, omega arith)),
)

pub until_next : NotLeftIsNext
until_next p o t r = (
  (λ u. let e : u.0 ≡ r = omega (arith, u.2) in subst (λ d. IsDueIn p o t d) e u.1),
  (λ d. (r, d, omega arith)),
)

pub tick_settled : TicksWhereNothingIsLeft
tick_settled p C h = (
  (λ may. record {
    nodes = λ n node at. ⊎_elim
        (λ is. let d = h.due n node at is in absurd (may.nodes n node d.0 at is d.1 (omega (arith, d.1.past, d.2))))
        (λ no'. no')
        (cases_Bool (is_left C n));
    modules = λ m a at. ⊎_elim
        (λ is. let d = h.due_dm m a at is in absurd (may.modules m a d.0 at is d.1 (omega (arith, d.1.past, d.2))))
        (λ no'. no')
        (cases_Bool (is_left_dm C m));
  }),
  (λ none. record {
    nodes = λ n node d at is last. absurd (false≢true (sym (none.nodes n node at) ∙ is));
    modules = λ m a d at is last. absurd (false≢true (sym (none.modules m a at) ∙ is));
  }),
)
