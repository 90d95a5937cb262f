use Rattle.sot_guard_lines.proofs.Sayings.{said_once}
use Rattle.sot_guard_lines.proofs.laws.lines_say_once.Goals as goal

pub returns : goal.returns
returns c = said_once
