-- Flights that are flown in order. In each instant the inputs come first, then the modules decide
-- in declared order, and then the nodes that no guest flies fire in declared order; before a tick
-- all of them have come, so none of them is late. A guest's node fires when its guest has drafted.
use Rattle.std.specs.Prelude.{ℕ, ◌<◌, ◌≡◌, false, List, [], ◌∷◌, length}
use Rattle.sot_lang.specs.Tables.{Tables}
use Rattle.sot_world.specs.Configurations.{is_left, is_left_dm}
use Rattle.sot_world.specs.HistoryEntry.{Logged, InputAt, FireAt, DecideAt, TickAt}
use Rattle.sot_flight.specs.Plans.{Plan}
use Rattle.sot_board.specs.Flown.{Position, NoInputDue, Flies, IsStart, IsEnd}
use Rattle.sot_board.specs.Standing.{Standing}
use Rattle.sot_ordered_board.specs.Crews.{IsOwn}

-- of the first so many modules none is left to decide
abbrev pub HaveDecided : Position → ℕ → Type 0
HaveDecided P count = (m : ℕ) → m < count → is_left_dm P.at m ≡ false

-- of the first so many nodes none is left to fire, but for those that guests fly
abbrev pub HaveFired : Plan → Position → ℕ → Type 0
HaveFired f P count = (n : ℕ) → n < count → IsOwn f n → is_left P.at n ≡ false

-- it is the turn of node n: all inputs that are due have come, all modules have decided, and the
-- nodes before it have fired; of as many nodes as there are: the turn of the tick
pub record HasTurn (p : Tables) (f : Plan) (P : Position) (n : ℕ) : Type 0 where
  pub inputs : NoInputDue P
  pub decided : HaveDecided P (length p.modules)
  pub fired : HaveFired f P n

-- an entry may come next where the flight stands at P
abbrev pub IsNext : Tables → Plan → Position → Logged → Type 0
IsNext p f P (InputAt time topic value) = Unit {0}
IsNext p f P (DecideAt time m mode) = NoInputDue P × HaveDecided P m
IsNext p f P (FireAt time n draft enabled) = IsOwn f n → HasTurn p f P n
IsNext p f P (TickAt time noise states) = HasTurn p f P (length p.nodes)

-- the entries lead from P to Q, one event after another, and each comes where it may come next
abbrev pub LeadsInOrder : Tables → ℕ → Plan → Position → List Logged → Position → Type 0
LeadsInOrder p jitter f P [] Q = P ≡ Q
LeadsInOrder p jitter f P (entry ∷ entries) Q =
    IsNext p f P entry
    × ((R : Position) × Flies p jitter f P entry R × LeadsInOrder p jitter f R entries Q)

-- a history of the flight so far, flown in order, which stands at Q
abbrev pub FlownInOrder : Tables → ℕ → Plan → List Logged → Position → Type 0
FlownInOrder p jitter f entries Q =
    (P : Position) × IsStart p f P × LeadsInOrder p jitter f P entries Q

-- a history of the flight, flown in order to the end
abbrev pub FliesInOrder : Tables → ℕ → Plan → List Logged → Type 0
FliesInOrder p jitter f entries =
    (Q : Position) × FlownInOrder p jitter f entries Q × IsEnd p f Q

-- the history of a board is in order
abbrev pub IsInOrder : Standing → Type 0
IsInOrder b = FlownInOrder b.accepted.program b.accepted.cert.jitter b.plan b.entries b.position
