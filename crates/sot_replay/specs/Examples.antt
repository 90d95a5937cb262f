-- Worked lines of a flight of the relay, whose node copies an input: its two whole traces, and
-- lines with the first test that each does not pass.
use Rattle.std.specs.Prelude.{◌≡◌, pos, false, List, [], ◌∷◌, ℕ, map, codes}
use Rattle.std.specs.Global.{Global}
use Rattle.sot_lang.specs.TableRules.{MeetsTableRules}
use Rattle.sot_world.specs.HistoryEntry.{Logged, InputAt}
use Rattle.sot_world.specs.Examples.{relay, relaying}
use Rattle.sot_board.specs.Flown.{Position}
use Rattle.sot_board.specs.Examples.{relay_flight, relay_history, copies}
use Rattle.sot_trace.specs.Words.{AreWords}
use Rattle.sot_replay.specs.GoesOn.{IsTraceOf}
use Rattle.sot_replay.specs.Tests.{order_of, IsFirstFailing}
use Rattle.sot_replay.specs.Replays.{IsRefusedAt}
use Rattle.sot_replay.specs.declared.fail.LineKind.{LineKind}
use Rattle.sot_replay.specs.declared.fail.LineKind.TheVariants.{NotALine, WrongTime, NotDue}
use Rattle.sot_replay.specs.declared.fail.LineKind.TheVariants.{AlreadyFired, NodesLeft}
use Rattle.sot_replay.specs.declared.fail.LineKind.TheVariants.{OutsideType, InputsLeft, TooFar}
use Rattle.sot_replay.specs.declared.fail.LineKind.TheVariants.{Differs, Ended, Missing}

-- which test comes before which
abbrev pub TestsInOrder : Type 0
TestsInOrder =
    map order_of (NotALine ∷ WrongTime ∷ NotDue ∷ AlreadyFired ∷ NodesLeft ∷ OutsideType ∷
    InputsLeft ∷ TooFar ∷ Differs ∷ Ended ∷ Missing ∷ [])
    ≡ 0 ∷ 1 ∷ 2 ∷ 2 ∷ 2 ∷ 2 ∷ 3 ∷ 4 ∷ 5 ∷ 6 ∷ 7 ∷ []

-- the flight at its start, with its input to come and its node left to fire
abbrev pub starting : Position
starting = record { at = relaying (pos 0) (pos 0); inputs = relay_flight.inputs; fired = 0 ∷ [] }

-- the input 5 has come, and the node is left
abbrev pub heard : Position
heard = record { at = relaying (pos 5) (pos 0); inputs = []; fired = 0 ∷ [] }

-- the node has fired before the input comes, and copied 0
abbrev pub unheard : Position
unheard =
    record {
      at = record (relaying (pos 0) (pos 0)) { left = false ∷ [] };
      inputs = relay_flight.inputs;
      fired = 1 ∷ [];
    }

-- the end of the first order
abbrev pub copied : Position
copied =
    record {
      at = record (relaying (pos 5) (pos 5)) { left = false ∷ [] };
      inputs = [];
      fired = 1 ∷ [];
    }

-- what happens in the other order: the node copies 0, and then the input comes
abbrev pub other_history : List Logged
other_history = copies (pos 0) ∷ InputAt 0 0 (pos 5 ∷ []) ∷ []

-- both orders are flown, and these are their traces
abbrev pub TwoTraces : Global → Type 0
TwoTraces g =
    IsTraceOf (relay g) 0 relay_flight
    (codes "soter trace 1" ∷ codes "0 input e=5" ∷ codes "0 fire copy m=5" ∷ codes
    "end 0 events 2 refused 0" ∷ []) relay_history
    × IsTraceOf (relay g) 0 relay_flight
    (codes "soter trace 1" ∷ codes "0 fire copy m=0" ∷ codes "0 input e=5" ∷ codes
    "end 0 events 2 refused 0" ∷ []) other_history

-- behind a history so far that leads to P, this is the first test that the line does not pass
abbrev pub FailsAt : Global → List Logged → Position → List ℕ → LineKind → Type 0
FailsAt g entries P line kind = IsFirstFailing (relay g) 0 relay_flight entries P line kind

-- in the first line behind the header: the input comes at its time, with its value, in its type;
-- and at 0 the node copies 0
abbrev pub OtherFirstLines : Global → Type 0
OtherFirstLines g =
    FailsAt g [] starting (codes "0 fire copy m=5") Differs
    × FailsAt g [] starting (codes "0 fire copy m!0") Differs
    × FailsAt g [] starting (codes "0 idle copy m=0") Differs
    × FailsAt g [] starting (codes "0 input e=6") Differs
    × FailsAt g [] starting (codes "0 input e=10") OutsideType
    × FailsAt g [] starting (codes "1 input e=5") WrongTime
    × FailsAt g [] starting (codes "1 input e=10") WrongTime

-- what is left comes first, and then an input that is due; then the end has to count the history,
-- and no tick comes at the horizon
abbrev pub OtherLastLines : Global → Type 0
OtherLastLines g =
    FailsAt g [] starting (codes "0 tick") NodesLeft
    × FailsAt g [] starting (codes "end 0 events 0 refused 0") NodesLeft
    × FailsAt g (InputAt 0 0 (pos 5 ∷ []) ∷ []) heard (codes "end 0 events 1 refused 0") NodesLeft
    × FailsAt g (copies (pos 0) ∷ []) unheard (codes "end 0 events 1 refused 0") InputsLeft
    × FailsAt g (copies (pos 0) ∷ []) unheard (codes "0 tick") InputsLeft
    × FailsAt g (copies (pos 0) ∷ []) unheard (codes "0 fire copy m=0") AlreadyFired
    × FailsAt g relay_history copied (codes "0 tick") TooFar
    × FailsAt g relay_history copied (codes "end 0 events 3 refused 0") Differs
    × FailsAt g relay_history copied (codes "end 0 events 2 refused 1") Differs

-- what the laws ask of tables is met by the relay's
abbrev pub MeetsTheLaws : Global → Type 0
MeetsTheLaws g = MeetsTableRules (relay g) × AreWords (relay g)

-- a zero in front, a sign, a blank too many, a name that is not there, a topic that does not come
-- from outside, two numbers for one, and the header: all of them spell nothing
abbrev pub SpellNothing : Global → Type 0
SpellNothing g =
    FailsAt g [] starting (codes "0 input e=05") NotALine
    × FailsAt g [] starting (codes "0 input e=+5") NotALine
    × FailsAt g [] starting (codes "0 input e=5 ") NotALine
    × FailsAt g [] starting (codes "0 input f=5") NotALine
    × FailsAt g [] starting (codes "0 input m=5") NotALine
    × FailsAt g [] starting (codes "0 input e=5,5") NotALine
    × FailsAt g [] starting (codes "01 input e=5") NotALine
    × FailsAt g [] starting (codes "soter trace 1") NotALine
    × FailsAt g [] starting [] NotALine

-- as wholes, with the number of the line: the node copies 5 before the input came; an input outside
-- its type; one of another time besides, of which the earlier test tells, whatever follows; and one
-- with a zero in front; no line; the header alone; another header; and a line behind the end
abbrev pub RefusedLines : Global → Type 0
RefusedLines g =
    IsRefusedAt (relay g) 0 relay_flight
    (codes "soter trace 1" ∷ codes "0 fire copy m=5" ∷ codes "0 input e=5" ∷ codes
    "end 0 events 2 refused 0" ∷ []) 2 Differs
    × IsRefusedAt (relay g) 0 relay_flight (codes "soter trace 1" ∷ codes "0 input e=10" ∷ []) 2
    OutsideType
    × IsRefusedAt (relay g) 0 relay_flight
    (codes "soter trace 1" ∷ codes "1 input e=10" ∷ codes "x" ∷ []) 2 WrongTime
    × IsRefusedAt (relay g) 0 relay_flight (codes "soter trace 1" ∷ codes "0 input e=05" ∷ []) 2
    NotALine
    × IsRefusedAt (relay g) 0 relay_flight [] 1 Missing
    × IsRefusedAt (relay g) 0 relay_flight (codes "soter trace 1" ∷ []) 2 Missing
    × IsRefusedAt (relay g) 0 relay_flight (codes "soter trace 2" ∷ codes "0 input e=5" ∷ []) 1
    NotALine
    × IsRefusedAt (relay g) 0 relay_flight
    (codes "soter trace 1" ∷ codes "0 input e=5" ∷ codes "0 fire copy m=5" ∷ codes
    "end 0 events 2 refused 0" ∷ codes "x" ∷ []) 5 Ended
