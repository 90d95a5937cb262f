-- A talk's session with its room. Nothing here has to be trusted: the calls say what each of them
-- does to what is seen.
use Rattle.std.specs.Prelude.{◌≡◌, length}
use Rattle.sot_trace.specs.Words.{AreWords}
use Rattle.sot_guard.specs.Hearing.{program_of}
use Rattle.sot_guard_protocol.specs.declared.desk.SessionDesk.TheInside.{Inside}
use Rattle.sot_guard_protocol.specs.Talks.{Talking}

abbrev pub talking : Inside → Talking
talking d = record { hearing = d.session; events = d.events }

-- what holds of each desk: it has a point for each plant, and the names of its program are words
pub record IsDesk (d : Inside) : Type 0 where
  pub points : length d.points.items ≡ length (program_of d.session).plants
  pub words : AreWords (program_of d.session)
