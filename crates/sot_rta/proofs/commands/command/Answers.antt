use Rattle.std.proofs.Common.{rules, arith, ◌+◌, sym, ap, ◌∙◌}
use Rattle.sot_lang.specs.Ranges.{range_of}
use Rattle.sot_tube.specs.Certified.{sure_interval}
use Rattle.sot_rta.proofs.CommandSides.{drafted_here, further, not_sure}
use Rattle.sot_rta.proofs.commands.command.Goals as goal

pub returns-in-Sure : goal.returns-in-Sure
returns-in-Sure c =
    sym (c.loop-i.invariant ∙ drafted_here c.args.p.now c.args.scalar c.args.writes.now c.args.draft.now c.loop-i.i c.get.result c.loop-i-test.true
    c.get.ensures (search rules)
    ∙ ap (sure_interval (range_of c.args.p.now.scalars c.args.scalar)) c.in-Sure.is)

pub returns-in_default : goal.returns-in_default
returns-in_default c =
    c.slot_side-whole.ensures
    ∙ sym (c.loop-i.invariant ∙ drafted_here c.args.p.now c.args.scalar c.args.writes.now c.args.draft.now c.loop-i.i c.get.result c.loop-i-test.true
    c.get.ensures (search rules)
    ∙ not_sure c.args.p.now c.args.scalar c.get.result (range_of c.args.p.now.scalars c.args.scalar) c.in_default.not-Sure)

pub loop-i-preserved : goal.loop-i-preserved
loop-i-preserved c =
    c.loop-i.invariant ∙ further c.args.p.now c.args.scalar c.args.writes.now c.args.draft.now c.loop-i.i (c.loop-i.i + 1) c.loop-i-test.true (search rules)
    (omega arith)
