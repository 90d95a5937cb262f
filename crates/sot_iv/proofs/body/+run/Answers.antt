use Rattle.std.proofs.Common.{rules, arith, ap, ◌∙◌, sym, subst, ◌≡◌, length, Ok, Err, ap₂, ◌+◌}
use Rattle.std.proofs.lemmas.Result.{err_from_is_err_and}
use Rattle.sot_lang.specs.declared.act.Act.{the_lemmas}
use Rattle.sot_lang.specs.OwnerNames.{node_truths}
use Rattle.sot_lang.specs.ActRules.{ActsFit}
use Rattle.sot_lang.proofs.ActRows.{ActFits-If, ActFits-Repeat}
use Rattle.sot_iv.specs.Firings.{state, step_of, run_of, turns_of}
use Rattle.sot_iv.proofs.Rows.{act_intervals-Repeat}
use Rattle.sot_iv.proofs.Steps.{run_more, run_stops, turn_more, turns_stop, takes_first, takes_second, takes_both, leaves_same, leaves_ok, leaves_err}
use Rattle.sot_iv.proofs.Steps.{first_stops, second_stops, both_join}
use Rattle.sot_lang.proofs.Owners.{fits_at, node_places}
use Rattle.sot_iv.proofs.body.+run.Goals as goal

pub run-step-requires : goal.run-step-requires
run-step-requires t c =
    let i = c.loop-one.invariant in
    let f = fits_at _ _ _ c.args.acts.now c.loop-one.one-index c.one-item.result c.requires.fits (omega arith) c.one-item.is in
    (search (rules, the_lemmas, c.one-item.is, c.decreases), (c.requires.node, (f, (c.requires.reads, (i.size ∙ c.requires.size, i.slots ∙ c.requires.slots)))))

pub run-loop-one-preserved : goal.run-loop-one-preserved
run-loop-one-preserved t c =
    let i = c.loop-one.invariant in
    record {
      size = search (rules, i.size);
      slots = search (rules, i.slots);
      ends =
          run_more c.args.p.now c.args.node.now c.args.seen.now c.args.acts.now c.loop-one.one-index c.one-item.result _ _ _ (omega arith) c.one-item.is i.ends
          c.in_ok-step.ensures;
    }

pub run-returns-in_err-step : goal.run-returns-in_err-step
run-returns-in_err-step t c =
    let i = c.loop-one.invariant in
    let q = err_from_is_err_and c.from_residual.result c.from_residual.ensures.1 in
    rw (q.1, q.2) (run_stops c.args.p.now c.args.node.now c.args.seen.now c.args.acts.now c.loop-one.one-index c.one-item.result _ _ _ (omega arith)
    c.one-item.is i.ends c.in_err-step.ensures)

pub step-assign-requires-clause-places : goal.step-assign-requires-clause-places
step-assign-requires-clause-places t c =
    let f = rw c.in-Assign.is at c.requires.fits in
    node_places c.args.p.now c.args.node.now c.in-Assign.value _ f.1 (sym (ap₂ (λ a b. a + b) c.requires.reads c.requires.size))

pub step-publish-requires-clause-places : goal.step-publish-requires-clause-places
step-publish-requires-clause-places t c =
    let f = rw c.in-Publish.is at c.requires.fits in
    node_places c.args.p.now c.args.node.now c.in-Publish.value _ f.1 (sym (ap₂ (λ a b. a + b) c.requires.reads c.requires.size))

pub step-interval_of-requires : goal.step-interval_of-requires
step-interval_of-requires t c =
    let f = ActFits-If _ _ _ c.in-If.cond c.in-If.yes c.in-If.no (rw c.in-If.is at c.requires.fits) in
    node_places c.args.p.now c.args.node.now c.in-If.cond _ f.1 (sym (ap₂ (λ a b. a + b) c.requires.reads c.requires.size))

pub step-run-requires : goal.step-run-requires
step-run-requires t c =
    let f = ActFits-If _ _ _ c.in-If.cond c.in-If.yes c.in-If.no (rw c.in-If.is at c.requires.fits) in (
      search (rules, the_lemmas, c.in-If.is, c.deref.ensures.value, c.decreases),
      (
        c.requires.node,
        (
          subst (λ us. ActsFit (node_truths c.args.p.now c.args.node.now) (length c.args.node.now.locals.items)
              (length c.args.node.now.writes.items) us) (sym c.deref.ensures.value) f.3,
          (c.requires.reads, (c.requires.size, c.requires.slots)),
        ),
      ),
    )

pub step-returns-then-not-is_possible : goal.step-returns-then-not-is_possible
step-returns-then-not-is_possible t c =
    let f = state c.args.locals.now c.args.draft.now in
    let taken = takes_second c.args.p.now c.args.node.now c.args.seen.now c.in-If.cond c.in-If.yes c.in-If.no f c.in_ok-c-in-If.c
    (sym c.interval_of.ensures ∙ c.in_ok-c-in-If.was) (sym c.is_possible.ensures ∙ c.if-not-is_possible.true) in
    leaves_same c.run.result c.run.new.locals c.run.new.draft _ _
    (sym (ap (λ a. step_of c.args.p.now c.args.node.now c.args.seen.now a f) c.in-If.is ∙ taken
    ∙ ap (λ us. run_of c.args.p.now c.args.node.now c.args.seen.now us f) (sym c.deref.ensures.value))) c.run.ensures

pub step-run-requires-then-is_sure : goal.step-run-requires-then-is_sure
step-run-requires-then-is_sure t c =
    let f = ActFits-If _ _ _ c.in-If.cond c.in-If.yes c.in-If.no (rw c.in-If.is at c.requires.fits) in (
      search (rules, the_lemmas, c.in-If.is, c.deref-then-is_sure.ensures.value, c.decreases),
      (
        c.requires.node,
        (
          subst (λ us. ActsFit (node_truths c.args.p.now c.args.node.now) (length c.args.node.now.locals.items)
              (length c.args.node.now.writes.items) us) (sym c.deref-then-is_sure.ensures.value) f.2,
          (c.requires.reads, (c.requires.size, c.requires.slots)),
        ),
      ),
    )

pub step-returns-then-is_sure : goal.step-returns-then-is_sure
step-returns-then-is_sure t c =
    let f = state c.args.locals.now c.args.draft.now in
    let taken = takes_first c.args.p.now c.args.node.now c.args.seen.now c.in-If.cond c.in-If.yes c.in-If.no f c.in_ok-c-in-If.c
    (sym c.interval_of.ensures ∙ c.in_ok-c-in-If.was) (sym c.is_possible.ensures ∙ c.if-not-is_possible.false) (sym c.is_sure.ensures ∙ c.if-is_sure.true)
    in
    leaves_same c.run-then-is_sure.result c.run-then-is_sure.new.locals c.run-then-is_sure.new.draft _ _
    (sym (ap (λ a. step_of c.args.p.now c.args.node.now c.args.seen.now a f) c.in-If.is ∙ taken
    ∙ ap (λ us. run_of c.args.p.now c.args.node.now c.args.seen.now us f) (sym c.deref-then-is_sure.ensures.value))) c.run-then-is_sure.ensures

pub step-run-requires-in-If : goal.step-run-requires-in-If
step-run-requires-in-If t c =
    let f = ActFits-If _ _ _ c.in-If.cond c.in-If.yes c.in-If.no (rw c.in-If.is at c.requires.fits) in (
      search (rules, the_lemmas, c.in-If.is, c.deref-in-If.ensures.value, c.decreases),
      (
        c.requires.node,
        (
          subst (λ us. ActsFit (node_truths c.args.p.now c.args.node.now) (length c.args.node.now.locals.items)
              (length c.args.node.now.writes.items) us) (sym c.deref-in-If.ensures.value) f.2,
          (c.requires.reads, (ap length c.copy_locals.ensures ∙ c.requires.size, ap length c.copy_draft.ensures ∙ c.requires.slots)),
        ),
      ),
    )

pub step-returns-in_err-run-in-If : goal.step-returns-in_err-run-in-If
step-returns-in_err-run-in-If t c =
    let f = state c.args.locals.now c.args.draft.now in
    let q = err_from_is_err_and c.from_residual-in_err-run-in-If.result c.from_residual-in_err-run-in-If.ensures.1 in
    let both = takes_both c.args.p.now c.args.node.now c.args.seen.now c.in-If.cond c.in-If.yes c.in-If.no f c.in_ok-c-in-If.c
    (sym c.interval_of.ensures ∙ c.in_ok-c-in-If.was) (sym c.is_possible.ensures ∙ c.if-not-is_possible.false) (sym c.is_sure.ensures ∙ c.if-is_sure.false)
    in
    let first : run_of c.args.p.now c.args.node.now c.args.seen.now c.in-If.yes.items f ≡ Err c.in_err-run-in-If.field-0.0 =
    ap (λ us. run_of c.args.p.now c.args.node.now c.args.seen.now us f) (sym c.deref-in-If.ensures.value)
    ∙ ap₂ (λ l d. run_of c.args.p.now c.args.node.now c.args.seen.now c.deref-in-If.result.now (state l d)) (sym c.copy_locals.ensures)
    (sym c.copy_draft.ensures) ∙ leaves_err c.run-in-If.result c.run-in-If.new.locals c.run-in-If.new.draft _ c.in_err-run-in-If.field-0.0
    c.in_err-run-in-If.was c.run-in-If.ensures in
    rw (q.1, q.2) (ap (λ a. step_of c.args.p.now c.args.node.now c.args.seen.now a f) c.in-If.is ∙ both ∙ first_stops _ _ _ first)

pub step-run-requires-in-If-2 : goal.step-run-requires-in-If-2
step-run-requires-in-If-2 t c =
    let f = ActFits-If _ _ _ c.in-If.cond c.in-If.yes c.in-If.no (rw c.in-If.is at c.requires.fits) in (
      search (rules, the_lemmas, c.in-If.is, c.deref-in-If-2.ensures.value, c.decreases),
      (
        c.requires.node,
        (
          subst (λ us. ActsFit (node_truths c.args.p.now c.args.node.now) (length c.args.node.now.locals.items)
              (length c.args.node.now.writes.items) us) (sym c.deref-in-If-2.ensures.value) f.3,
          (c.requires.reads, (c.requires.size, c.requires.slots)),
        ),
      ),
    )

pub step-returns-in_err-run-in-If-2 : goal.step-returns-in_err-run-in-If-2
step-returns-in_err-run-in-If-2 t c =
    let f = state c.args.locals.now c.args.draft.now in
    let q = err_from_is_err_and c.from_residual-in_err-run-in-If-2.result c.from_residual-in_err-run-in-If-2.ensures.1 in
    let both = takes_both c.args.p.now c.args.node.now c.args.seen.now c.in-If.cond c.in-If.yes c.in-If.no f c.in_ok-c-in-If.c
    (sym c.interval_of.ensures ∙ c.in_ok-c-in-If.was) (sym c.is_possible.ensures ∙ c.if-not-is_possible.false) (sym c.is_sure.ensures ∙ c.if-is_sure.false)
    in
    let first : run_of c.args.p.now c.args.node.now c.args.seen.now c.in-If.yes.items f ≡ Ok (state c.run-in-If.new.locals c.run-in-If.new.draft) =
    ap (λ us. run_of c.args.p.now c.args.node.now c.args.seen.now us f) (sym c.deref-in-If.ensures.value)
    ∙ ap₂ (λ l d. run_of c.args.p.now c.args.node.now c.args.seen.now c.deref-in-If.result.now (state l d)) (sym c.copy_locals.ensures)
    (sym c.copy_draft.ensures) ∙ leaves_ok c.run-in-If.result c.run-in-If.new.locals c.run-in-If.new.draft _ _ c.in_ok-run-in-If.was c.run-in-If.ensures in
    let second : run_of c.args.p.now c.args.node.now c.args.seen.now c.in-If.no.items f ≡ Err c.in_err-run-in-If-2.field-0.0 =
    ap (λ us. run_of c.args.p.now c.args.node.now c.args.seen.now us f) (sym c.deref-in-If-2.ensures.value)
    ∙ leaves_err c.run-in-If-2.result c.run-in-If-2.new.locals c.run-in-If-2.new.draft _ c.in_err-run-in-If-2.field-0.0 c.in_err-run-in-If-2.was
    c.run-in-If-2.ensures in
    rw (q.1, q.2) (ap (λ a. step_of c.args.p.now c.args.node.now c.args.seen.now a f) c.in-If.is ∙ both ∙ second_stops _ _ _ _ first second)

pub step-returns-in_ok-run-in-If-2 : goal.step-returns-in_ok-run-in-If-2
step-returns-in_ok-run-in-If-2 t c =
    let f = state c.args.locals.now c.args.draft.now in
    let both = takes_both c.args.p.now c.args.node.now c.args.seen.now c.in-If.cond c.in-If.yes c.in-If.no f c.in_ok-c-in-If.c
    (sym c.interval_of.ensures ∙ c.in_ok-c-in-If.was) (sym c.is_possible.ensures ∙ c.if-not-is_possible.false) (sym c.is_sure.ensures ∙ c.if-is_sure.false)
    in
    let first : run_of c.args.p.now c.args.node.now c.args.seen.now c.in-If.yes.items f ≡ Ok (state c.run-in-If.new.locals c.run-in-If.new.draft) =
    ap (λ us. run_of c.args.p.now c.args.node.now c.args.seen.now us f) (sym c.deref-in-If.ensures.value)
    ∙ ap₂ (λ l d. run_of c.args.p.now c.args.node.now c.args.seen.now c.deref-in-If.result.now (state l d)) (sym c.copy_locals.ensures)
    (sym c.copy_draft.ensures) ∙ leaves_ok c.run-in-If.result c.run-in-If.new.locals c.run-in-If.new.draft _ _ c.in_ok-run-in-If.was c.run-in-If.ensures in
    let second : run_of c.args.p.now c.args.node.now c.args.seen.now c.in-If.no.items f ≡ Ok (state c.run-in-If-2.new.locals c.run-in-If-2.new.draft) =
    ap (λ us. run_of c.args.p.now c.args.node.now c.args.seen.now us f) (sym c.deref-in-If-2.ensures.value)
    ∙ leaves_ok c.run-in-If-2.result c.run-in-If-2.new.locals c.run-in-If-2.new.draft _ _ c.in_ok-run-in-If-2.was c.run-in-If-2.ensures in
    ap (λ a. step_of c.args.p.now c.args.node.now c.args.seen.now a f) c.in-If.is ∙ both ∙ both_join _ _ _ _ first second
    ∙ ap₂ (λ l d. Ok (state l d)) (sym c.join_locals.ensures) (sym c.join_drafts.ensures)

pub step-turns-requires : goal.step-turns-requires
step-turns-requires t c =
    let f = ActFits-Repeat _ _ _ c.in-Repeat.times c.in-Repeat.body (rw c.in-Repeat.is at c.requires.fits) in (
      search (rules, the_lemmas, c.in-Repeat.is, c.deref-in-Repeat.ensures.value, c.decreases),
      (
        c.requires.node,
        (
          subst (λ us. ActsFit (node_truths c.args.p.now c.args.node.now) (length c.args.node.now.locals.items)
              (length c.args.node.now.writes.items) us) (sym c.deref-in-Repeat.ensures.value) f.2,
          (c.requires.reads, (c.requires.size, c.requires.slots)),
        ),
      ),
    )

pub step-returns-in-Repeat : goal.step-returns-in-Repeat
step-returns-in-Repeat t c =
    let f = state c.args.locals.now c.args.draft.now in
    leaves_same c.turns.result c.turns.new.locals c.turns.new.draft _ _
    (sym (ap (λ a. step_of c.args.p.now c.args.node.now c.args.seen.now a f) c.in-Repeat.is ∙ act_intervals-Repeat _ _ _ _ _ _
    ∙ ap (λ us. turns_of c.args.p.now c.args.node.now c.args.seen.now c.in-Repeat.times us f) (sym c.deref-in-Repeat.ensures.value))) c.turns.ensures

pub turns-loop-turn-preserved : goal.turns-loop-turn-preserved
turns-loop-turn-preserved t c =
    let i = c.loop-turn.invariant in
    record {
      size = search (rules, i.size);
      slots = search (rules, i.slots);
      ends = turn_more c.loop-turn._turn (run_of c.args.p.now c.args.node.now c.args.seen.now c.args.acts.now) _ _ _ i.ends c.in_ok-run.ensures;
    }

pub turns-returns-in_err-run : goal.turns-returns-in_err-run
turns-returns-in_err-run t c =
    let i = c.loop-turn.invariant in
    let q = err_from_is_err_and c.from_residual.result c.from_residual.ensures.1 in
    rw (q.1, q.2) (turns_stop c.loop-turn._turn c.args.count (run_of c.args.p.now c.args.node.now c.args.seen.now c.args.acts.now) _ _ _ (omega arith) i.ends
    c.in_err-run.ensures)
