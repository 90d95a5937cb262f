use Rattle.std.proofs.Common.{rules, arith, ap, ◌∙◌, sym, subst, ◌≡◌, ◌+◌, length, FitsSigned, of_z, w64}
use Rattle.std.proofs.lemmas.Result.{err_from_is_err_and}
use Rattle.sot_lang.specs.declared.act.Act.{the_lemmas}
use Rattle.sot_lang.specs.OwnerNames.{node_truths}
use Rattle.sot_lang.specs.Values.{is_true}
use Rattle.sot_lang.specs.ActRules.{ActsFit}
use Rattle.sot_lang.proofs.ActRows.{ActFits-If, ActFits-Repeat, act-Repeat}
use Rattle.sot_code.specs.Firings.{fired_at, step_of, run_of, turns_of}
use Rattle.sot_code.proofs.Steps.{run_more, run_stops, turn_more, turns_stop, takes_first, takes_second, ends_same, zero_of_bits}
use Rattle.sot_lang.proofs.Owners.{fits_at, node_places, true_of_ne}
use Rattle.sot_code.proofs.body.+run.Goals as goal

pub run-step-requires : goal.run-step-requires
run-step-requires t c =
    let lt = c.loop-one-test.true in
    let size : length c.args.node.now.reads.items + length c.args.node.now.locals.items ≡ length c.loop-one.numbers =
    omega (arith, c.loop-one.invariant.size, c.requires.size) in
    let f = fits_at _ _ _ c.args.acts.now c.loop-one.one-index c.one-item.result c.requires.fits (omega arith) c.one-item.is in
    (search (rules, the_lemmas, c.one-item.is, c.decreases), (c.requires.node, (f, size)))

pub run-loop-one-preserved : goal.run-loop-one-preserved
run-loop-one-preserved t c =
    let i = c.loop-one.invariant in
    let e = rw i.read at c.in_ok-step.ensures.ends in
    record {
      read = c.in_ok-step.ensures.read ∙ i.read;
      size = c.in_ok-step.ensures.size ∙ i.size;
      slots = c.in_ok-step.ensures.slots ∙ i.slots;
      unused = c.in_ok-step.ensures.unused ∙ i.unused;
      ends = run_more c.args.p.now c.args.node.now _ c.args.acts.now c.loop-one.one-index c.one-item.result _ _ _ (omega arith) c.one-item.is i.ends e;
    }

pub run-returns-in_err-step-clause-ends : goal.run-returns-in_err-step-clause-ends
run-returns-in_err-step-clause-ends t c =
    let i = c.loop-one.invariant in
    let e = rw i.read at c.in_err-step.ensures.ends in
    let q = err_from_is_err_and c.from_residual.result c.from_residual.ensures.1 in
    rw (q.1, q.2) (run_stops c.args.p.now c.args.node.now _ c.args.acts.now c.loop-one.one-index c.one-item.result _ _ _ (omega arith) c.one-item.is i.ends e)

pub step-assign-requires-clause-places : goal.step-assign-requires-clause-places
step-assign-requires-clause-places t c =
    let f = rw c.in-Assign.is at c.requires.fits in
    node_places c.args.p.now c.args.node.now c.in-Assign.value _ f.1 c.requires.size

pub step-publish-requires-clause-places : goal.step-publish-requires-clause-places
step-publish-requires-clause-places t c =
    let f = rw c.in-Publish.is at c.requires.fits in
    node_places c.args.p.now c.args.node.now c.in-Publish.value _ f.1 c.requires.size

pub step-value-requires : goal.step-value-requires
step-value-requires t c =
    let f = ActFits-If _ _ _ c.in-If.cond c.in-If.yes c.in-If.no (rw c.in-If.is at c.requires.fits) in
    node_places c.args.p.now c.args.node.now c.in-If.cond _ f.1 c.requires.size

pub step-run-requires : goal.step-run-requires
step-run-requires t c =
    let f = ActFits-If _ _ _ c.in-If.cond c.in-If.yes c.in-If.no (rw c.in-If.is at c.requires.fits) in (
      search (rules, the_lemmas, c.in-If.is, c.deref.ensures.value, c.decreases),
      (
        c.requires.node,
        (
          subst (λ us. ActsFit (node_truths c.args.p.now c.args.node.now) (length c.args.node.now.locals.items)
              (length c.args.node.now.writes.items) us) (sym c.deref.ensures.value) f.2,
          c.requires.size,
        ),
      ),
    )

pub step-run-requires-else-branch-ne0 : goal.step-run-requires-else-branch-ne0
step-run-requires-else-branch-ne0 t c =
    let f = ActFits-If _ _ _ c.in-If.cond c.in-If.yes c.in-If.no (rw c.in-If.is at c.requires.fits) in (
      search (rules, the_lemmas, c.in-If.is, c.deref-else-branch-ne0.ensures.value, c.decreases),
      (
        c.requires.node,
        (
          subst (λ us. ActsFit (node_truths c.args.p.now c.args.node.now) (length c.args.node.now.locals.items)
              (length c.args.node.now.writes.items) us) (sym c.deref-else-branch-ne0.ensures.value) f.3,
          c.requires.size,
        ),
      ),
    )

pub step-turns-requires : goal.step-turns-requires
step-turns-requires t c =
    let f = ActFits-Repeat _ _ _ c.in-Repeat.times c.in-Repeat.body (rw c.in-Repeat.is at c.requires.fits) in (
      search (rules, the_lemmas, c.in-Repeat.is, c.deref-in-Repeat.ensures.value, c.decreases),
      (
        c.requires.node,
        (
          subst (λ us. ActsFit (node_truths c.args.p.now c.args.node.now) (length c.args.node.now.locals.items)
              (length c.args.node.now.writes.items) us) (sym c.deref-in-Repeat.ensures.value) f.2,
          c.requires.size,
        ),
      ),
    )

pub step-returns-then-branch-ne0-clause-ends : goal.step-returns-then-branch-ne0-clause-ends
step-returns-then-branch-ne0-clause-ends t c =
    let z = c.in_ok-value-in-If.field-0 in
    let f = fired_at c.args.node.now c.args.numbers.now c.args.draft.now in
    let taken = takes_first c.args.p.now c.args.node.now c.args.numbers.now c.in-If.cond c.in-If.yes c.in-If.no c.args.draft.now z
    (sym c.value.ensures ∙ c.in_ok-value-in-If.was) (true_of_ne z (λ e. c.if-branch-ne0.true (ap (of_z w64) e))) in
    ends_same c.args.node.now c.run.result c.run.new.numbers c.run.new.draft _ _
    (sym (ap (λ a. step_of c.args.p.now c.args.node.now c.args.numbers.now a f) c.in-If.is ∙ taken
    ∙ ap (λ us. run_of c.args.p.now c.args.node.now c.args.numbers.now us f) (sym c.deref.ensures.value))) c.run.ensures.ends

pub step-returns-else-branch-ne0-clause-ends : goal.step-returns-else-branch-ne0-clause-ends
step-returns-else-branch-ne0-clause-ends t c =
    let z = c.in_ok-value-in-If.field-0 in
    let f = fired_at c.args.node.now c.args.numbers.now c.args.draft.now in
    let fits : FitsSigned w64 z = search rules in
    let taken = takes_second c.args.p.now c.args.node.now c.args.numbers.now c.in-If.cond c.in-If.yes c.in-If.no c.args.draft.now z
    (sym c.value.ensures ∙ c.in_ok-value-in-If.was) (ap is_true (zero_of_bits z fits c.if-branch-ne0.false)) in
    ends_same c.args.node.now c.run-else-branch-ne0.result c.run-else-branch-ne0.new.numbers c.run-else-branch-ne0.new.draft _ _
    (sym (ap (λ a. step_of c.args.p.now c.args.node.now c.args.numbers.now a f) c.in-If.is ∙ taken
    ∙ ap (λ us. run_of c.args.p.now c.args.node.now c.args.numbers.now us f) (sym c.deref-else-branch-ne0.ensures.value)))
    c.run-else-branch-ne0.ensures.ends

pub step-returns-in-Repeat-clause-ends : goal.step-returns-in-Repeat-clause-ends
step-returns-in-Repeat-clause-ends t c =
    let f = fired_at c.args.node.now c.args.numbers.now c.args.draft.now in
    ends_same c.args.node.now c.turns.result c.turns.new.numbers c.turns.new.draft _ _
    (sym (ap (λ a. step_of c.args.p.now c.args.node.now c.args.numbers.now a f) c.in-Repeat.is ∙ act-Repeat _ _ _ _ _ _
    ∙ ap (λ us. turns_of c.args.p.now c.args.node.now c.args.numbers.now c.in-Repeat.times us f) (sym c.deref-in-Repeat.ensures.value)))
    c.turns.ensures.ends

pub turns-loop-turn-preserved : goal.turns-loop-turn-preserved
turns-loop-turn-preserved t c =
    let i = c.loop-turn.invariant in
    let e = rw i.read at c.in_ok-run.ensures.ends in
    record {
      read = c.in_ok-run.ensures.read ∙ i.read;
      size = c.in_ok-run.ensures.size ∙ i.size;
      slots = c.in_ok-run.ensures.slots ∙ i.slots;
      unused = c.in_ok-run.ensures.unused ∙ i.unused;
      ends = turn_more c.loop-turn._turn (run_of c.args.p.now c.args.node.now c.args.numbers.now c.args.acts.now) _ _ _ i.ends e;
    }

pub turns-returns-in_err-run-clause-ends : goal.turns-returns-in_err-run-clause-ends
turns-returns-in_err-run-clause-ends t c =
    let i = c.loop-turn.invariant in
    let e = rw i.read at c.in_err-run.ensures.ends in
    let q = err_from_is_err_and c.from_residual.result c.from_residual.ensures.1 in
    rw (q.1, q.2) (turns_stop c.loop-turn._turn c.args.count (run_of c.args.p.now c.args.node.now c.args.numbers.now c.args.acts.now) _ _ _ (omega arith) i.ends
    e)
