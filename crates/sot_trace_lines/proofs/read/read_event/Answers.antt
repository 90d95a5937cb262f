use Rattle.std.proofs.Common.{true, false, sym, subst}
use Rattle.sot_trace_lines.specs.Kept.{ShowsRead}
use Rattle.sot_trace_lines.proofs.ShownLines.{fire_event, idle_event}
use Rattle.sot_trace_lines.proofs.read.read_event.Goals as goal

pub returns-in-Some-behind : goal.returns-in-Some-behind
returns-in-Some-behind c = λ t is.
    subst (ShowsRead c.args.numbers.now.items c.read_fire.result)
    (sym (fire_event c.args.p.now t c.args.text.now c.in-Some-behind.rest.now (sym c.in_default.ensures) (sym c.in-Some-behind.ensures)))
    (c.read_fire.ensures t true c.args.numbers.now.items is)

pub returns-in-Some-behind-2 : goal.returns-in-Some-behind-2
returns-in-Some-behind-2 c = λ t is.
    subst (ShowsRead c.args.numbers.now.items c.read_fire-in-Some-behind-2.result)
    (sym (idle_event c.args.p.now t c.args.text.now c.in-Some-behind-2.rest.now (sym c.in_default.ensures) (sym c.in_default-behind.ensures)
    (sym c.in-Some-behind-2.ensures)))
    (c.read_fire-in-Some-behind-2.ensures t false c.args.numbers.now.items is)
