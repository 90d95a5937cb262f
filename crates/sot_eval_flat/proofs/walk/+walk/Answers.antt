use Rattle.std.proofs.Common.{rules, arith, ap, sym, subst, of_z, w64, FitsSigned}
use Rattle.sot_lang.specs.Values.{is_true}
use Rattle.sot_lang.proofs.Owners.{true_of_ne}
use Rattle.sot_code.proofs.Steps.{zero_of_bits}
use Rattle.sot_eval_flat.specs.Instructions.{number_at}
use Rattle.sot_eval_flat.specs.Flows.{Flows, FlowAll, Rounds, state}
use Rattle.sot_eval_flat.proofs.Walks.{flow_more, round_more, choose_first, choose_second, turn}
use Rattle.sot_eval_flat.proofs.walk.+walk.Goals as goal

pub walk-loop-one-preserved : goal.walk-loop-one-preserved
walk-loop-one-preserved t c =
    let i = c.loop-one.invariant in
    record {
      first = λ well. i.first (c.go.ensures.first well);
      size = c.go.ensures.size;
      goes = λ well.
          flow_more c.args.steps.now c.loop-one.one-index c.one-item.result _ _ _ (omega arith) c.one-item.is (i.goes (c.go.ensures.first well))
          (c.go.ensures.goes well);
    }

pub turns-loop-turn-preserved : goal.turns-loop-turn-preserved
turns-loop-turn-preserved t c =
    let i = c.loop-turn.invariant in
    record {
      first = λ well. i.first (c.walk.ensures.first well);
      size = c.walk.ensures.size;
      goes = λ well. round_more c.loop-turn._turn (FlowAll c.args.steps.now) _ _ _ (i.goes (c.walk.ensures.first well)) (c.walk.ensures.goes well);
    }

pub go-returns-then-room-place-ne0-clause-goes : goal.go-returns-then-room-place-ne0-clause-goes
go-returns-then-room-place-ne0-clause-goes t c = λ well.
    let s = state c.args.room.now c.args.draft.now in
    let u = state c.walk.new.room c.walk.new.draft in
    let z = number_at c.args.room.now c.in-Choice.place in
    subst (λ one. Flows one s u) (sym c.in-Choice.is)
    (choose_first c.in-Choice.place c.in-Choice.yes c.in-Choice.no s u (true_of_ne z (λ e. c.if-room-place-ne0.true (ap (of_z w64) e)))
    (subst (λ us. FlowAll us s u) c.deref-then-room-place-ne0.ensures.value (c.walk.ensures.goes well)))

pub go-returns-else-room-place-ne0-clause-goes : goal.go-returns-else-room-place-ne0-clause-goes
go-returns-else-room-place-ne0-clause-goes t c = λ well.
    let s = state c.args.room.now c.args.draft.now in
    let u = state c.walk-else-room-place-ne0.new.room c.walk-else-room-place-ne0.new.draft in
    let z = number_at c.args.room.now c.in-Choice.place in
    let fits : FitsSigned w64 z = search rules in
    subst (λ one. Flows one s u) (sym c.in-Choice.is)
    (choose_second c.in-Choice.place c.in-Choice.yes c.in-Choice.no s u (ap is_true (zero_of_bits z fits c.if-room-place-ne0.false))
    (subst (λ us. FlowAll us s u) c.deref-else-room-place-ne0.ensures.value (c.walk-else-room-place-ne0.ensures.goes well)))

pub go-returns-in-Turns-clause-goes : goal.go-returns-in-Turns-clause-goes
go-returns-in-Turns-clause-goes t c = λ well.
    let s = state c.args.room.now c.args.draft.now in
    let u = state c.turns.new.room c.turns.new.draft in
    subst (λ one. Flows one s u) (sym c.in-Turns.is)
    (turn c.in-Turns.times c.in-Turns.body s u
    (subst (λ us. Rounds c.in-Turns.times (FlowAll us) s u) c.deref-in-Turns.ensures.value (c.turns.ensures.goes well)))
