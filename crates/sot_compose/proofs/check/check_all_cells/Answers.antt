use Rattle.std.proofs.Common.{rules, arith, ◌≡◌, length}
use Rattle.sot_tube.specs.Verdict.{cells_of}
use Rattle.sot_rta.proofs.Loops.{next_passes, all_pass}
use Rattle.sot_compose.proofs.check.check_all_cells.Goals as goal

pub loop-module-preserved : goal.loop-module-preserved
loop-module-preserved g c =
    next_passes c.args.p.now.modules (cells_of c.args.p.now c.args.c.now.jitter c.args.c.now) c.loop-module.«module» c.module_at-info.result.now
    c.module_at-info.ensures.is (c.in_default.ensures c.module_at-info.result.now c.module_at-info.ensures.is) c.loop-module.invariant

pub returns : goal.returns
returns g c =
    let few : c.len-module-end.result ≡ length c.args.p.now.modules = search rules in
    all_pass c.args.p.now.modules (cells_of c.args.p.now c.args.c.now.jitter c.args.c.now) c.loop-module.«module» (omega (arith, few, c.loop-module-test.false))
    c.loop-module.invariant
