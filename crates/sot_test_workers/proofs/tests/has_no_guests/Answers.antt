use Rattle.std.proofs.Common.{arith}
use Rattle.sot_test_workers.proofs.tests.has_no_guests.Goals as goal

pub returns : goal.returns
returns c = λ n i at. absurd (omega (arith, c.requires.guests_there n i at))
