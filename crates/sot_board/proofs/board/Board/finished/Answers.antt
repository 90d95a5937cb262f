use Rattle.std.proofs.Common.{◌≡◌, sym, ap, ◌∙◌, subst}
use Rattle.std.proofs.lemmas.Bool.{eqb-true}
use Rattle.sot_board.specs.Standing.{IsStanding}
use Rattle.sot_board.proofs.InputsDue.{no_input_left, ended_none_due}
use Rattle.sot_board.proofs.board.Board.finished.Goals as goal

pub returns-then-time-horizon : goal.returns-then-time-horizon
returns-then-time-horizon c =
    let s = c.args.self.now in
    let is = subst IsStanding c.self.view_is c.self.invariant.has.standing in
    let time : s.position.at.time ≡ s.plan.horizon = sym (ap (λ x. x.position.at.time) c.self.view_is) ∙ sym c.time.ensures.value ∙ c.if-time-horizon.true
    ∙ c.horizon.ensures ∙ ap (λ x. x.plan.horizon) c.self.view_is in (
      (λ on. let set = c.settled.ensures.0 on in record { time = time; inputs = no_input_left s is time set.1; nothing = set.0 }),
      (λ end. c.settled.ensures.1 (end.nothing, ended_none_due s end.inputs)),
    )

pub returns-else-time-horizon : goal.returns-else-time-horizon
returns-else-time-horizon c = (
  (λ on. absurd (c.if-time-horizon.false (eqb-true c.time.result c.horizon.result on))),
  (λ end. absurd (c.if-time-horizon.false (c.time.ensures.value ∙ ap (λ x. x.position.at.time) c.self.view_is ∙ end.time
      ∙ sym (ap (λ x. x.plan.horizon) c.self.view_is) ∙ sym c.horizon.ensures))),
)
