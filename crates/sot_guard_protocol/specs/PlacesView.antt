-- The first points with their room. Nothing here has to be trusted: the calls say what each of them
-- does to what is seen.
use Rattle.std.specs.Prelude.{◌≤◌, length}
use Rattle.sot_trace.specs.Words.{AreWords}
use Rattle.sot_guard_protocol.specs.declared.places.Places.TheInside.{Inside}
use Rattle.sot_guard_protocol.specs.Openings.{Starting, IsStarting}

abbrev pub starting : Inside → Starting
starting o = record { accepted = o.accepted.now; starts = o.starts.items }

pub record HasRoom (o : Inside) : Type 0 where
  pub kept : IsStarting (starting o)
  pub words : AreWords o.accepted.now.program
  pub room : length o.accepted.now.program.plants ≤ o.starts.cap
