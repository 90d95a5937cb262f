-- The two missions, as the code holds them.
use Rattle.sot_tube.specs.Admitted.{Admitted}
use Rattle.sot_flight.specs.Plans.{Plan}
use Rattle.sot_bridge.specs.declared.side.Side.{Side as Held}
use Rattle.sot_bridge.specs.Answers.{Side}

abbrev pub side_of : Held → Side
side_of s = record { tables = s.program.now; cert = s.cert.now; plan = s.flight.now }

-- an accepted program with a flight
abbrev pub side_with : Admitted → Plan → Side
side_with a f = record { tables = a.program; cert = a.cert; plan = f }
