-- What follows of sends.
use Rattle.std.specs.Prelude.{◌≡◌, ℕ, suc, ◌+◌, ◌*◌, ◌<◌, ◌≤◌, ℤ, true, List, length}
use Rattle.sot_lists.specs.Places.{At}
use Rattle.sot_box.specs.Sides.{IsIn}
use Rattle.sot_lang.specs.declared.tables.TopicInfo.{TopicInfo}
use Rattle.sot_lang.specs.declared.tables.NodeInfo.{NodeInfo}
use Rattle.sot_lang.specs.Tables.{Tables}
use Rattle.sot_lang.specs.TableRules.{MeetsTableRules}
use Rattle.sot_lang.specs.Ranges.{range_of}
use Rattle.sot_world.specs.HistoryEntry.{Logged}
use Rattle.sot_flight.specs.Plans.{Plan}
use Rattle.sot_flight.specs.Relayed.{Send, relayed, with_sends, MayRelay}
use Rattle.sot_board.specs.Flown.{FlownBy}
use Rattle.sot_law_flights.specs.Told.{inputs_told}
use Rattle.sot_bridge.specs.Topics.{Match}
use Rattle.sot_bridge.specs.Sends.{most_sends}
use Rattle.sot_bridge.specs.SendLaws.{sends_of}

-- the jitter is below the period of each node, as the conditions of a certificate want it
abbrev pub IsShortJitter : Tables → ℕ → Type 0
IsShortJitter p jitter = (n : ℕ) (node : NodeInfo) → At p.nodes n node → jitter < node.period

-- a whole history sends no more often than nodes that write the topic are due
abbrev pub SendsAreFew : Type 0
SendsAreFew =
    (p : Tables) (jitter : ℕ) (f : Plan) (entries : List Logged) (topic : ℕ) → MeetsTableRules p
    → IsShortJitter p jitter → FlownBy p jitter f entries
    → length (sends_of p topic entries) ≤ most_sends p topic f.horizon

-- sends come in order of time, and by the horizon
abbrev pub SendsAreInOrder : Type 0
SendsAreInOrder =
    (p : Tables) (jitter : ℕ) (f : Plan) (entries : List Logged) (topic : ℕ)
    → FlownBy p jitter f entries →
    ((i : ℕ) (s t : Send) → At (sends_of p topic entries) i s
    → At (sends_of p topic entries) (suc i) t → s.at ≤ t.at)
    × ((i : ℕ) (s : Send) → At (sends_of p topic entries) i s → s.at ≤ f.horizon)

-- a send has a number for each scalar of the topic, in the scalar's range
abbrev pub SendsAreInRange : Type 0
SendsAreInRange =
    (p : Tables) (jitter : ℕ) (f : Plan) (entries : List Logged) (topic : ℕ) (info : TopicInfo)
    → MeetsTableRules p → At p.topics topic info → FlownBy p jitter f entries → (i : ℕ) (s : Send)
    → At (sends_of p topic entries) i s →
    (length s.value ≡ info.count)
    × ((k : ℕ) (z : ℤ) → At s.value k z → IsIn (range_of p.scalars (info.first + k)) z)

-- of two topics that match, what a history of the one flight sends may be relayed to the other
-- flight, where that one is long enough and has room for as many sends as there may be
abbrev pub SendsMayBeRelayed : Type 0
SendsMayBeRelayed =
    (p q : Tables) (jitter : ℕ) (f g : Plan) (entries : List Logged) (k l delay : ℕ)
    (a b : TopicInfo) → MeetsTableRules p → MeetsTableRules q → IsShortJitter p jitter
    → FlownBy p jitter f entries → At p.topics k a → At q.topics l b → b.outside ≡ true
    → Match p q a b → f.horizon + delay ≤ g.horizon
    → g.events + most_sends p k f.horizon ≤ 200000
    → g.numbers + most_sends p k f.horizon * b.count ≤ 1000000
    → MayRelay q g l delay (sends_of p k entries)

-- a flight to which sends come too takes as inputs its own and the sends: each send once, in order,
-- so many ticks after its time, and behind its own inputs of that time
abbrev pub SendsAreTaken : Type 0
SendsAreTaken =
    (q : Tables) (jitter : ℕ) (g : Plan) (sends : List Send) (l delay : ℕ) (entries : List Logged)
    → FlownBy q jitter (relayed l delay sends g) entries
    → inputs_told entries ≡ with_sends l delay sends g.inputs
