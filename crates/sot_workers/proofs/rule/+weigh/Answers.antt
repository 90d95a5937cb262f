use Rattle.std.proofs.Common.{◌*◌, ◌-◌, ◌^◌, min, refl, ap, ◌∙◌, arith}
use Rattle.std.proofs.lemmas.Option.{slice_get_read}
use Rattle.sot_workers.specs.Threads.{weight, statements}
use Rattle.sot_workers.proofs.Weights.{statements_more, weight-If, weight-Repeat, times_cut}
use Rattle.sot_workers.proofs.rule.+weigh.Goals as goal

pub statements-loop-act-preserved : goal.statements-loop-act-preserved
statements-loop-act-preserved t c =
    let list = c.args.acts.now in
    let i = c.loop-act.act-index in
    let at = slice_get_read list _ i c.act-item.result refl c.loop-act-test.true c.act-item.is in
    let more = statements_more list i c.act-item.result at in
    record {
      small = omega (arith, c.saturating_add-count.ensures);
      same = omega (arith, more, c.weight.ensures, c.saturating_add-count.ensures, c.loop-act.invariant.same, c.loop-act.invariant.small);
    }

pub weight-returns-in-If : goal.weight-returns-in-If
weight-returns-in-If t c =
    let is = weight-If _ _ c.in-If.yes c.in-If.no c.in-If.is in
    let yes = c.statements.ensures ∙ ap (λ us. min (statements us) (2 ^ 32 - 1)) c.deref.ensures.value in
    let no = c.statements-in-If.ensures ∙ ap (λ us. min (statements us) (2 ^ 32 - 1)) c.deref-in-If.ensures.value in
    omega (arith, is, yes, no, c.saturating_add.ensures, c.saturating_add-in-If.ensures)

pub weight-returns-in-Repeat : goal.weight-returns-in-Repeat
weight-returns-in-Repeat t c =
    let is = ap weight c.in-Repeat.is ∙ weight-Repeat c.in-Repeat.times c.in-Repeat.body in
    let body = c.statements-in-Repeat.ensures ∙ ap (λ us. min (statements us) (2 ^ 32 - 1)) c.deref-in-Repeat.ensures.value in
    let cut = times_cut c.in-Repeat.times (statements c.in-Repeat.body.items) (2 ^ 32 - 1) in
    let times = c.saturating_mul.ensures ∙ ap (λ k. min (k * c.in-Repeat.times) (2 ^ 32 - 1)) body ∙ cut in
    omega (arith, is, times, c.saturating_add-in-Repeat.ensures)
