use Rattle.sot_calendar.proofs.Counting.{none_before, count_from}
use Rattle.sot_calendar.proofs.firings.Goals as goal

pub returns-then-horizon-offset : goal.returns-then-horizon-offset
returns-then-horizon-offset c = none_before c.args.period c.args.offset c.args.horizon c.if-horizon-offset.true

pub returns-else-horizon-offset : goal.returns-else-horizon-offset
returns-else-horizon-offset c =
    count_from c.args.period c.args.offset c.args.horizon c.requires.offset c.if-horizon-offset.false
