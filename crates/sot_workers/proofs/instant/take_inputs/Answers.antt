use Rattle.std.proofs.Common.{[], refl, sym, append-nil}
use Rattle.std.proofs.lemmas.Bool.{both_ways}
use Rattle.sot_board.proofs.InputsDue.{no_input_due}
use Rattle.sot_workers.proofs.Effects.{input_same, same_again}
use Rattle.sot_workers.proofs.Histories.{input_added, none_added_again}
use Rattle.sot_workers.proofs.instant.take_inputs.Goals as goal

pub inputs-init : goal.inputs-init
inputs-init c = (let start = c.args.board.now in record {
  same = record { accepted = refl; plan = refl; time = refl };
  entries = record { goes_on = ([], sym (append-nil start.entries)); drafts = λ n. refl };
})

pub inputs-preserved : goal.inputs-preserved
inputs-preserved c =
    let start = c.args.board.now in
    let old = c.inputs.board in
    let new = c.input.new.self in
    let e = c.input.ensures in
    record {
      same = same_again start old new c.inputs.invariant.same (input_same old new e.0 e.1 e.2 e.3);
      entries = none_added_again start.entries old.entries new.entries c.inputs.invariant.entries (input_added old new e.0 e.1 e.2 e.3);
    }

pub returns-clause-none : goal.returns-clause-none
returns-clause-none c =
    no_input_due c.inputs.board c.reveal_invariant.ensures (λ due. both_ways c.due_input.result c.inputs-test.false (c.due_input.ensures.1 due))
