-- A talk with its room. Nothing here has to be trusted: the calls say what each of them does to
-- what is seen.
use Rattle.std.specs.Prelude.{◌≤◌}
use Rattle.sot_guard_lines.specs.Room.{said_room}
use Rattle.sot_guard_protocol.specs.declared.talk.Talk.TheInside.{Inside}
use Rattle.sot_guard_protocol.specs.Talks.{tables_of}

-- there is room for the numbers of any line
abbrev pub HearsAnyLine : Inside → Type 0
HearsAnyLine t = said_room (tables_of t.desk) ≤ t.numbers.cap
