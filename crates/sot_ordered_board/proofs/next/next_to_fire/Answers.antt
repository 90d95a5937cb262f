use Rattle.std.proofs.Common.{◌≡◌, ◌<◌, ℕ, Option, None, Some, true, length, IfSome}
use Rattle.std.proofs.lemmas.Bool.{both_ways}
use Rattle.sot_world.specs.Configurations.{is_left}
use Rattle.sot_board.specs.Flown.{NoInputDue}
use Rattle.sot_board.specs.Standing.{Standing}
use Rattle.sot_board.proofs.InputsDue.{no_input_due, input_not_due}
use Rattle.sot_ordered_board.specs.Crews.{IsOwn}
use Rattle.sot_ordered_board.specs.Order.{HaveDecided, HaveFired}
use Rattle.sot_ordered_board.specs.Turns.{FiresNext}
use Rattle.sot_ordered_board.proofs.next.next_to_fire.Goals.{then-due_input-via-then-due_input, then-due_input-via-else-due_input+then-not-have_decided}
use Rattle.sot_ordered_board.proofs.next.next_to_fire.Goals as goal

pub returns-then-due_input-clause-none : goal.returns-then-due_input-clause-none
returns-then-due_input-clause-none c n next =
    elim c.then-due_input.branch [
      | then-due_input-via-then-due_input w ↦
          input_not_due c.args.board.now next.turn.inputs (c.due_input.ensures.0 w.if-due_input.true)
      | then-due_input-via-else-due_input+then-not-have_decided w ↦
          both_ways w.have_decided.result w.if-not-have_decided.true (w.have_decided.ensures.1 next.turn.decided)
    ]

-- the first one that is left is the next one
next_is :
    (b : Standing) (r : Option ℕ) → NoInputDue b.position → HaveDecided b.position (length b.accepted.program.modules)
    → IfSome r (λ n. n < length b.accepted.program.nodes) → IfSome r (λ n. is_left b.position.at n ≡ true) → IfSome r (IsOwn b.plan)
    → IfSome r (HaveFired b.plan b.position) → IfSome r (FiresNext b)
next_is b None inputs decided there left own first = tt
next_is b (Some n) inputs decided there left own first = record {
  there = there;
  own = own;
  left = left;
  turn = record { inputs = inputs; decided = decided; fired = first };
}

pub returns-clause-some : goal.returns-clause-some
returns-clause-some c =
    let b = c.args.board.now in
    let did = c.first_own_left.ensures in
    let inputs = no_input_due b c.reveal_invariant.ensures (λ due. both_ways c.due_input.result c.if-due_input.false (c.due_input.ensures.1 due)) in
    next_is b c.first_own_left.result inputs (c.have_decided.ensures.0 c.if-not-have_decided.false) did.there did.left did.own did.first
