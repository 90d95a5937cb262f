use Rattle.std.proofs.Common.{rules, arith, ◌≡◌, length}
use Rattle.sot_rta.proofs.Loops.{next_passes, all_pass}
use Rattle.sot_compose.specs.Frames.{frame}
use Rattle.sot_compose.proofs.frames.check_frames.Goals as goal

pub loop-module-preserved : goal.loop-module-preserved
loop-module-preserved c =
    next_passes c.args.p.now.modules (frame c.args.looked c.args.p.now) c.loop-module.«module» c.module_at.result.now c.module_at.ensures.is
    c.in_default.ensures c.loop-module.invariant

pub returns : goal.returns
returns c =
    let few : c.len-module-end.result ≡ length c.args.p.now.modules = search rules in
    all_pass c.args.p.now.modules (frame c.args.looked c.args.p.now) c.loop-module.«module» (omega (arith, few, c.loop-module-test.false))
    c.loop-module.invariant
