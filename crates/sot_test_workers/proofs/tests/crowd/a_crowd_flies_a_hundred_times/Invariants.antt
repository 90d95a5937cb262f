use Rattle.std.specs.Prelude.{vec_len}
use Rattle.sot_flight.specs.Fits.{FitsFlight}
use Rattle.sot_test_workers.proofs.tests.crowd.a_crowd_flies_a_hundred_times.Given as goal

-- the flight is one for as many guests as there are
abbrev pub invariant-loop-number : goal.invariant-loop-number
invariant-loop-number g l = FitsFlight l.accepted.program (vec_len l.guests) l.flight
