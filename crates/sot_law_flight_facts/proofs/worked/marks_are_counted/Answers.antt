-- Computed.
use Rattle.std.proofs.Common.{refl}
use Rattle.sot_law_flight_facts.proofs.worked.marks_are_counted.Goals as goal

pub returns-clause-two : goal.returns-clause-two
returns-clause-two c g = refl

pub returns-clause-idle : goal.returns-clause-idle
returns-clause-idle c g = refl
