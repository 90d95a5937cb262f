use Rattle.std.proofs.Common.{sym, ap, ◌∙◌, subst}
use Rattle.sot_trace_lines.specs.Readers.{event_at}
use Rattle.sot_trace_lines.specs.Kept.{ShowsFront}
use Rattle.sot_trace_lines.proofs.Fronts.{firing_event}
use Rattle.sot_trace_lines.proofs.front.event_front.Goals as goal

pub returns-in-Some : goal.returns-in-Some
returns-in-Some c = λ t is.
    let (enabled, text) = c.in-Some.ensures in
    subst (ShowsFront c.args.p.now c.args.numbers.now.items c.firing_front.result)
    (sym (ap (event_at c.args.p.now t) text ∙ firing_event c.args.p.now t enabled c.in-Some.rest.now))
    (c.firing_front.ensures t enabled c.args.numbers.now.items is)
