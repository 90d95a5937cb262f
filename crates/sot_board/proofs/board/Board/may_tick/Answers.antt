use Rattle.std.proofs.Common.{◌↔◌, subst}
use Rattle.std.specs.Prelude.{IsTrue}
use Rattle.std.proofs.lemmas.Bool.{both_ways}
use Rattle.sot_board.specs.BoardView.{standing}
use Rattle.sot_board.specs.Calls.{InputDue, MayTickNow}
use Rattle.sot_board.proofs.InputsDue.{no_input_due, input_not_due}
use Rattle.sot_board.proofs.board.Board.may_tick.Goals as goal

pub returns-then-not-due_input : goal.returns-then-not-due_input
returns-then-not-due_input c =
    let b = c.self.inside in
    let ens = c.may_tick.ensures in
    let none = no_input_due (standing b) c.self.invariant.has.standing
    (λ due. both_ways c.due_input.result c.if-not-due_input.true (c.due_input.ensures.1 (subst (λ s. InputDue s.position) c.self.view_is due))) in
    subst (λ s. IsTrue c.may_tick.result ↔ MayTickNow s.accepted.program s.accepted.cert.jitter s.position) c.self.view_is
    ((λ on. (ens.0 on, none)), (λ both. ens.1 both.0))

pub returns-else-not-due_input : goal.returns-else-not-due_input
returns-else-not-due_input c = ((λ on. cc), (λ both. absurd (input_not_due c.args.self.now both.1 (c.due_input.ensures.0 c.if-not-due_input.false))))
