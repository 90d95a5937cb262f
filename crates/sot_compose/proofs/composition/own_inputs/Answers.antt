use Rattle.std.proofs.Common.{rules, arith, ◌≡◌, length}
use Rattle.sot_tube.specs.Verdict.{foreign_input}
use Rattle.sot_rta.proofs.Loops.{next_passes, all_pass, refuses_at}
use Rattle.sot_compose.proofs.composition.own_inputs.Goals as goal

pub returns-in-Err : goal.returns-in-Err
returns-in-Err c =
    refuses_at c.args.p.now.modules (foreign_input c.args.p.now) c.loop-module.«module» c.module_at.result.now _ c.module_at.ensures.is c.in-Err.ensures
    c.loop-module.invariant

pub loop-module-preserved : goal.loop-module-preserved
loop-module-preserved c =
    next_passes c.args.p.now.modules (foreign_input c.args.p.now) c.loop-module.«module» c.module_at.result.now c.module_at.ensures.is c.in_default.ensures
    c.loop-module.invariant

pub returns : goal.returns
returns c =
    let few : c.len-module-end.result ≡ length c.args.p.now.modules = search rules in
    all_pass c.args.p.now.modules (foreign_input c.args.p.now) c.loop-module.«module» (omega (arith, few, c.loop-module-test.false)) c.loop-module.invariant
