use Rattle.std.proofs.Common.{arith}
use Rattle.sot_test_runs.proofs.Views.{one_module, one_plant, one_scalar}
use Rattle.sot_test_runs.proofs.tests.worlds.view_of.Goals as goal

pub mode-requires : goal.mode-requires
mode-requires c = omega (arith, one_module _ c.args.p.now c.args.w.now.accepted.program c.requires.program c.requires.line)

pub state-requires : goal.state-requires
state-requires c = omega (arith, one_plant _ c.args.p.now c.args.w.now.accepted.program c.requires.program c.requires.line)

pub scalar-requires : goal.scalar-requires
scalar-requires c = omega (arith, one_scalar _ c.args.p.now c.args.w.now.accepted.program c.requires.program c.requires.line)
