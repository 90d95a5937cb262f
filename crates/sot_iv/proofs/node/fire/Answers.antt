use Rattle.std.proofs.Common.{◌≡◌, Ok, length, replicate, ap, ap₂, sym, ◌∙◌, arith}
use Rattle.std.proofs.lemmas.List.{take-replicate}
use Rattle.std.proofs.lemmas.Result.{err_from_is_err_and}
use Rattle.sot_iv.specs.declared.drafted.Drafted.TheVariants.{Absent}
use Rattle.sot_iv.specs.Firings.{state, run_of}
use Rattle.sot_iv.specs.NodeFirings.{drafts_of}
use Rattle.sot_iv.proofs.Steps.{leaves_ok, leaves_err}
use Rattle.sot_iv.proofs.node.fire.Goals as goal

pub returns-in_err-run : goal.returns-in_err-run
returns-in_err-run c =
    let n = c.args.node.now in
    let q = err_from_is_err_and c.from_residual.result c.from_residual.ensures.1 in
    let count : c.len.result ≡ length n.writes.items = c.len.ensures ∙ n.writes.ok.0 in
    let none : c.split_at_mut-draft.result.0.now ≡ replicate (length n.writes.items) Absent =
    c.split_at_mut-draft.ensures.front ∙ take-replicate c.len.result 8 Absent (omega (arith, count, c.requires.node.few))
    ∙ ap (λ k. replicate k Absent) count in
    let e = leaves_err c.run.result c.run.new.locals c.run.new.draft _ c.in_err-run.field-0.0 c.in_err-run.was c.run.ensures in
    let same = ap₂ (λ l d. run_of c.args.p.now n c.args.seen.now c.args.acts.now (state l d)) c.copy_locals.ensures none in
    rw (q.1, q.2) (ap drafts_of (sym e ∙ same))

pub returns : goal.returns
returns c =
    let n = c.args.node.now in
    let count : c.len.result ≡ length n.writes.items = c.len.ensures ∙ n.writes.ok.0 in
    let none : c.split_at_mut-draft.result.0.now ≡ replicate (length n.writes.items) Absent =
    c.split_at_mut-draft.ensures.front ∙ take-replicate c.len.result 8 Absent (omega (arith, count, c.requires.node.few))
    ∙ ap (λ k. replicate k Absent) count in
    let e = leaves_ok c.run.result c.run.new.locals c.run.new.draft _ _ c.in_ok-run.was c.run.ensures in
    let same = ap₂ (λ l d. run_of c.args.p.now n c.args.seen.now c.args.acts.now (state l d)) c.copy_locals.ensures none in
    ap Ok c.from_slice.ensures ∙ ap drafts_of (sym e ∙ same)
