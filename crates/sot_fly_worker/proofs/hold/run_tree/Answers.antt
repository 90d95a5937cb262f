use Rattle.std.proofs.Common.{sym, subst}
use Rattle.sot_code.specs.Recorded.{MayRun, IsExecution}
use Rattle.sot_board.specs.Views.{viewed_node, viewed_numbers}
use Rattle.sot_fly_worker.proofs.Running.{view_runs}
use Rattle.sot_fly_worker.proofs.hold.run_tree.Goals as goal

pub run_node-requires : goal.run_node-requires
run_node-requires c =
    let p = c.args.p.now in
    let v = c.args.view.now in
    subst (λ n. MayRun p n (viewed_numbers v) c.locals-locals.result) (sym c.node.ensures)
    (subst (λ l. MayRun p (viewed_node v) (viewed_numbers v) l) (sym c.locals-locals.ensures) (view_runs p v c.requires.coded c.requires.due).0)

pub unreachable-requires : goal.unreachable-requires
unreachable-requires c =
    let p = c.args.p.now in
    let v = c.args.view.now in
    let ran = subst (λ n. IsExecution p n (viewed_numbers v) c.locals-locals.result c.run_node.result) c.node.ensures c.run_node.ensures in
    let ends = (view_runs p v c.requires.coded c.requires.due).1 c.run_node.result
    (subst (λ l. IsExecution p (viewed_node v) (viewed_numbers v) l c.run_node.result) c.locals-locals.ensures ran) in
    c.in_default.not-Ok ends.0 ends.1
