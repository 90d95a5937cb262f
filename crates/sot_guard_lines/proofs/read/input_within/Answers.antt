use Rattle.std.proofs.Common.{refl}
use Rattle.sot_guard_lines.proofs.read.input_within.Goals as goal

pub returns-clause-read : goal.returns-clause-read
returns-clause-read c = c.in-Ok.ensures.read 0 refl
