use Rattle.std.proofs.Common.{arith}
use Rattle.sot_calendar.proofs.Clock.{next_after}
use Rattle.sot_calendar.proofs.next_due.Goals as goal

pub returns-else-past-eq0 : goal.returns-else-past-eq0
returns-else-past-eq0 c =
    next_after c.args.period c.args.offset c.args.t c.requires.offset (omega arith) c.if-past-eq0.false
