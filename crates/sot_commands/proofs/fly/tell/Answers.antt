use Rattle.std.proofs.Common.{◌≡◌, Option, ap, inr, subst}
use Rattle.sot_tube.specs.Admitted.{Admitted}
use Rattle.sot_monitor.specs.Tracked.{Tracked}
use Rattle.sot_commands.specs.Steps.{IsMonitorFor, trace_or_summary, TellsVerdict, Tells}
use Rattle.sot_commands.proofs.InAll.{says_also}
use Rattle.sot_commands.proofs.Watching.{plainly_told}
use Rattle.sot_commands.proofs.fly.tell.Goals as goal

pub watched-requires-clause-watches : goal.watched-requires-clause-watches
watched-requires-clause-watches g c =
    subst (λ (m : Option Tracked). IsMonitorFor c.args.telling c.args.accepted.now.program m) c.in-Some.is c.requires.monitor

pub returns-in-Some : goal.returns-in-Some
returns-in-Some g c =
    let p = c.args.accepted.now.program in
    let b = c.args.board.now in
    says_also g.O.Out.puts c.args.out.now c.watched.new.out c.watched.result (TellsVerdict c.args.telling p b.plan b.entries)
    (Tells c.args.telling p b.plan b.entries)
    (λ status said tells. inr tells) c.watched.ensures

pub returns-in-None : goal.returns-in-None
returns-in-None g c =
    let p = c.args.accepted.now.program in
    let b = c.args.board.now in
    let plain = subst (λ (m : Option Tracked). IsMonitorFor c.args.telling p m) c.in-None.is c.requires.monitor in
    says_also g.O.Out.puts c.args.out.now c.trace_or_summary.new.out c.trace_or_summary.result
    (λ status said. (status ≡ 0) × (said ≡ trace_or_summary c.args.telling b.accepted.program b.plan b.entries))
    (Tells c.args.telling p b.plan b.entries)
    (λ status said tells. plainly_told c.args.telling p b.accepted.program b.plan b.entries status said plain
    (ap (λ (a : Admitted). a.program) c.requires.accepted) tells) c.trace_or_summary.ensures
