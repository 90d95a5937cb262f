use Rattle.std.proofs.Common.{sym, subst}
use Rattle.sot_code.specs.Recorded.{left_by, MayRun, IsExecution}
use Rattle.sot_eval_flat.specs.FlatForm.{IsFlatOf}
use Rattle.sot_board.specs.Views.{viewed_node, viewed_numbers, viewed_locals}
use Rattle.sot_fly_worker.proofs.Running.{view_runs, left_there}
use Rattle.sot_fly_worker.proofs.hold.run_flat.Goals as goal

pub run-requires-clause-flat : goal.run-requires-clause-flat
run-requires-clause-flat c = subst (λ n. IsFlatOf c.args.p.now n c.args.flat.now) (sym c.node.ensures) c.requires.flat

pub run-requires-clause-run : goal.run-requires-clause-run
run-requires-clause-run c =
    let p = c.args.p.now in
    let v = c.args.view.now in
    subst (λ n. MayRun p n (viewed_numbers v) c.locals-locals.result) (sym c.node.ensures)
    (subst (λ l. MayRun p (viewed_node v) (viewed_numbers v) l) (sym c.locals-locals.ensures) (view_runs p v c.requires.coded c.requires.due).0)

pub unreachable-requires : goal.unreachable-requires
unreachable-requires c =
    let p = c.args.p.now in
    let v = c.args.view.now in
    let left = left_by c.run.result c.run.new.locals c.run.new.draft in
    let ran = subst (λ n. IsExecution p n (viewed_numbers v) c.locals-locals.result left) c.node.ensures c.run.ensures in
    let ends = (view_runs p v c.requires.coded c.requires.due).1 left
    (subst (λ l. IsExecution p (viewed_node v) (viewed_numbers v) l left) c.locals-locals.ensures ran) in
    let there = left_there c.run.result c.run.new.locals c.run.new.draft ends.0 ends.1 in
    c.in_default.not-Ok there.0 there.1

pub returns : goal.returns
returns c =
    let p = c.args.p.now in
    let v = c.args.view.now in
    let locals = c.run.new.locals in
    let draft = c.run.new.draft in
    let left = left_by c.run.result locals draft in
    let ran = subst (λ n. IsExecution p n (viewed_numbers v) c.locals-locals.result left) c.node.ensures c.run.ensures in
    subst (λ r. IsExecution p (viewed_node v) (viewed_numbers v) (viewed_locals v) (left_by r locals draft)) c.in-Ok.is
    (subst (λ l. IsExecution p (viewed_node v) (viewed_numbers v) l left) c.locals-locals.ensures ran)
