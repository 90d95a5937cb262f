-- An opening with its room. Nothing here has to be trusted: the calls say what each of them does to
-- what is seen.
use Rattle.std.specs.Prelude.{◌≤◌}
use Rattle.sot_guard_lines.specs.Room.{said_room}
use Rattle.sot_guard_protocol.specs.declared.opening.TalkOpening.TheInside.{Inside}

-- there is room for the numbers of any line
abbrev pub HearsAnyLine : Inside → Type 0
HearsAnyLine o = said_room o.places.accepted.program ≤ o.numbers.cap
