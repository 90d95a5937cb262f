-- Worked lines of a flight of the running example: its whole trace, with a start line, a decision,
-- a disabled node and a tick of a plant, and lines with the first test that each does not pass.
use Rattle.std.specs.Prelude.{pos, true, false, List, [], ◌∷◌, ℕ, Some, codes}
use Rattle.std.specs.Global.{Global}
use Rattle.sot_lang.specs.TableRules.{MeetsTableRules}
use Rattle.sot_lang.specs.Line.{line}
use Rattle.sot_code.specs.Recorded.{in_slots}
use Rattle.sot_world.specs.declared.mode.Mode.TheVariants.{Ac}
use Rattle.sot_world.specs.Configurations.{Configuration}
use Rattle.sot_world.specs.HistoryEntry.{Logged, FireAt, DecideAt, TickAt}
use Rattle.sot_world.specs.Examples.{at_opening, decided, drafted, settled, ticked}
use Rattle.sot_flight.specs.Plans.{Plan, High, Script, Coded}
use Rattle.sot_board.specs.Flown.{Position}
use Rattle.sot_trace.specs.Words.{AreWords}
use Rattle.sot_replay.specs.GoesOn.{IsTraceOf}
use Rattle.sot_replay.specs.Tests.{IsFirstFailing}
use Rattle.sot_replay.specs.Replays.{IsRefusedAt}
use Rattle.sot_replay.specs.declared.fail.LineKind.{LineKind}
use Rattle.sot_replay.specs.declared.fail.LineKind.TheVariants.{NotALine, WrongTime, NotDue}
use Rattle.sot_replay.specs.declared.fail.LineKind.TheVariants.{AlreadyFired, NodesLeft}
use Rattle.sot_replay.specs.declared.fail.LineKind.TheVariants.{OutsideType, TooFar, Differs}

-- one tick from the point 0, with the disturbance at its high end; `fast` drafts 2, and `slow` has
-- its own code
abbrev pub line_flight : Plan
line_flight = record {
  horizon = 1;
  start = (pos 0 ∷ []) ∷ [];
  inputs = [];
  sways = High ∷ [];
  crews = Script ((Some (pos 2) ∷ []) ∷ []) ∷ Coded ∷ [];
  events = 4;
  numbers = 2;
}

-- what happens: the module decides for `fast`, which publishes 2; `slow` is disabled and drafts 0;
-- and the plant goes to 0 + 2 + 1
abbrev pub decision : Logged
decision = DecideAt 0 0 Ac

abbrev pub publication : Logged
publication = FireAt 0 0 (in_slots (Some (pos 2) ∷ [])) true

abbrev pub idling : Logged
idling = FireAt 0 1 (in_slots (Some (pos 0) ∷ [])) false

abbrev pub move : Logged
move = TickAt 0 (pos 1 ∷ []) (pos 3 ∷ [])

-- where the flight stands, with these firings behind it; it has no inputs
abbrev pub standing : Configuration → List ℕ → Position
standing C fired = record { at = C; inputs = []; fired = fired }

abbrev pub line_lines : List (List ℕ)
line_lines =
    codes "0 decide nav ac" ∷ codes "0 fire fast cmd=2" ∷ codes "0 idle slow cmd=0" ∷ codes
    "0 tick pos(1)=3" ∷ codes "end 1 events 4 refused 0" ∷ []

-- the flight is flown so, and these lines are its trace
abbrev pub LineTrace : Global → Type 0
LineTrace g =
    IsTraceOf (line g) 0 line_flight (codes "soter trace 1" ∷ codes "start pos 0" ∷ line_lines)
    (decision ∷ publication ∷ idling ∷ move ∷ [])

-- a start line of another point; of a plant that is not there; and no start line
abbrev pub OtherStartLines : Global → Type 0
OtherStartLines g =
    IsRefusedAt (line g) 0 line_flight (codes "soter trace 1" ∷ codes "start pos 9" ∷ line_lines) 2
    Differs
    × IsRefusedAt (line g) 0 line_flight (codes "soter trace 1" ∷ codes "start zap 0" ∷ line_lines)
    2 NotALine
    × IsRefusedAt (line g) 0 line_flight (codes "soter trace 1" ∷ line_lines) 2 NotALine

-- behind a history so far that leads to P, this is the first test that the line does not pass, with
-- this jitter
abbrev pub LineFailsAt : Global → ℕ → List Logged → Position → List ℕ → LineKind → Type 0
LineFailsAt g jitter entries P line_text kind =
    IsFirstFailing (line g) jitter line_flight entries P line_text kind

-- at 0 the plant is in its safer region, so the module decides for `fast`, once; without a decision
-- no tick comes
abbrev pub OtherDecisions : Global → Type 0
OtherDecisions g =
    LineFailsAt g 0 [] (standing at_opening (0 ∷ 0 ∷ [])) (codes "0 decide nav sc") Differs
    × LineFailsAt g 0 [] (standing at_opening (0 ∷ 0 ∷ [])) (codes "1 decide nav ac") WrongTime
    × LineFailsAt g 0 [] (standing at_opening (0 ∷ 0 ∷ [])) (codes "0 decide zap ac") NotALine
    × LineFailsAt g 0 [] (standing at_opening (0 ∷ 0 ∷ [])) (codes "0 tick pos(1)=1") NodesLeft
    × LineFailsAt g 0 (decision ∷ []) (standing decided (0 ∷ 0 ∷ [])) (codes "0 decide nav ac")
    AlreadyFired

-- `fast` publishes what it is scripted to; `slow` is disabled, and drafts what its code gives; and
-- no node writes a plant
abbrev pub OtherDrafts : Global → Type 0
OtherDrafts g =
    LineFailsAt g 0 (decision ∷ []) (standing decided (0 ∷ 0 ∷ [])) (codes "0 fire fast cmd=1")
    Differs
    × LineFailsAt g 0 (decision ∷ []) (standing decided (0 ∷ 0 ∷ [])) (codes "0 fire fast pos=2")
    NotALine
    × LineFailsAt g 0 (decision ∷ publication ∷ []) (standing drafted (1 ∷ 0 ∷ []))
    (codes "0 fire slow cmd=0") Differs
    × LineFailsAt g 0 (decision ∷ publication ∷ []) (standing drafted (1 ∷ 0 ∷ []))
    (codes "0 idle slow cmd=1") Differs
    × LineFailsAt g 0 (decision ∷ publication ∷ []) (standing drafted (1 ∷ 0 ∷ []))
    (codes "0 fire fast cmd=2") AlreadyFired

-- a disturbance outside its bounds, whatever follows; one that the flight does not state; another
-- state; two numbers for one; and the end before the horizon, by its time and by its count of ticks
abbrev pub OtherTicks : Global → Type 0
OtherTicks g =
    LineFailsAt g 0 (decision ∷ publication ∷ idling ∷ []) (standing settled (1 ∷ 1 ∷ []))
    (codes "0 tick pos(2)=14") OutsideType
    × LineFailsAt g 0 (decision ∷ publication ∷ idling ∷ []) (standing settled (1 ∷ 1 ∷ []))
    (codes "0 tick pos(0)=2") Differs
    × LineFailsAt g 0 (decision ∷ publication ∷ idling ∷ []) (standing settled (1 ∷ 1 ∷ []))
    (codes "0 tick pos(1)=4") Differs
    × LineFailsAt g 0 (decision ∷ publication ∷ idling ∷ []) (standing settled (1 ∷ 1 ∷ []))
    (codes "0 tick pos(1,1)=3") NotALine
    × LineFailsAt g 0 (decision ∷ publication ∷ idling ∷ []) (standing settled (1 ∷ 1 ∷ []))
    (codes "end 0 events 3 refused 0") TooFar
    × LineFailsAt g 0 (decision ∷ publication ∷ idling ∷ []) (standing settled (1 ∷ 1 ∷ []))
    (codes "end 1 events 3 refused 0") WrongTime

-- at 1 nothing is due; with a jitter of 1 what fired at 0 was due, and has fired; and the flight is
-- at its horizon
abbrev pub OtherLaterLines : Global → Type 0
OtherLaterLines g =
    LineFailsAt g 0 (decision ∷ publication ∷ idling ∷ move ∷ []) (standing ticked (1 ∷ 1 ∷ []))
    (codes "1 fire fast cmd=2") NotDue
    × LineFailsAt g 0 (decision ∷ publication ∷ idling ∷ move ∷ []) (standing ticked (1 ∷ 1 ∷ []))
    (codes "1 decide nav ac") NotDue
    × LineFailsAt g 1 (decision ∷ publication ∷ idling ∷ move ∷ []) (standing ticked (1 ∷ 1 ∷ []))
    (codes "1 fire fast cmd=2") AlreadyFired
    × LineFailsAt g 1 (decision ∷ publication ∷ idling ∷ move ∷ []) (standing ticked (1 ∷ 1 ∷ []))
    (codes "1 decide nav ac") AlreadyFired
    × LineFailsAt g 0 (decision ∷ publication ∷ idling ∷ move ∷ []) (standing ticked (1 ∷ 1 ∷ []))
    (codes "1 tick pos(1)=6") TooFar
    × LineFailsAt g 0 (decision ∷ publication ∷ idling ∷ move ∷ []) (standing ticked (1 ∷ 1 ∷ []))
    (codes "end 1 events 5 refused 0") Differs

-- what the laws ask of tables is met by the running example's
abbrev pub LineMeetsTheLaws : Global → Type 0
LineMeetsTheLaws g = MeetsTableRules (line g) × AreWords (line g)
