use Rattle.std.proofs.Common.{◌≡◌, length, drop, ap, ◌∙◌}
use Rattle.std.proofs.lemmas.Result.{err_from_is_err_and}
use Rattle.sot_code.proofs.Nodes.{fires, traps}
use Rattle.sot_code.proofs.node.fire.Goals as goal

pub returns : goal.returns
returns c =
    let e = c.in_ok-run.ensures in
    let base : c.len.result ≡ length c.args.node.now.reads.items = c.len.ensures ∙ c.args.node.now.reads.ok.0 in
    let kept = c.put.ensures ∙ c.split_at.ensures.back ∙ ap (λ n. drop n c.run.new.numbers) base in
    let blank = c.requires.blank in
    fires c.args.p.now c.args.node.now c.args.acts.now c.args.numbers.now c.requires.node.few c.run.new.numbers c.run.new.draft c.put.new.self
    (e.slots ∙ ap length blank) (e.unused ∙ ap (drop (length c.args.node.now.writes.items)) blank) kept (rw blank at e.ends)

pub returns-in_err-run : goal.returns-in_err-run
returns-in_err-run c =
    let q = err_from_is_err_and c.from_residual.result c.from_residual.ensures.1 in
    rw (q.1, q.2) (traps c.args.p.now c.args.node.now c.args.acts.now c.args.numbers.now c.requires.node.few _
    (rw c.requires.blank at c.in_err-run.ensures.ends))
