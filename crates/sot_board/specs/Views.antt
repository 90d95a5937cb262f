-- What a view has.
use Rattle.std.specs.Prelude.{ℕ, ℤ, ◌≡◌, List, length, map, take}
use Rattle.sot_lists.specs.Places.{At}
use Rattle.sot_lang.specs.declared.tables.Slot.{Slot}
use Rattle.sot_lang.specs.declared.tables.Slot.TheVariants.{Scalar, State}
use Rattle.sot_lang.specs.declared.tables.NodeInfo.{NodeInfo}
use Rattle.sot_lang.specs.Tables.{Tables}
use Rattle.sot_lang.specs.Readings.{reading}
use Rattle.sot_world.specs.Configurations.{locals_of}
use Rattle.sot_world.specs.HistoryEntry.{Logged}
use Rattle.sot_board.specs.declared.view.View.{View}
use Rattle.sot_board.specs.Flown.{Position}
use Rattle.sot_board.specs.Versions.{topic_of, version}

-- its node, its time, the length of its history, the numbers of the read slots, the versions of
-- their topics, and the locals
abbrev pub viewed_node : View → ℕ
viewed_node v = v.node

abbrev pub viewed_time : View → ℕ
viewed_time v = v.time

abbrev pub viewed_entries : View → ℕ
viewed_entries v = v.entries

abbrev pub viewed_numbers : View → List ℤ
viewed_numbers v = take v.count v.numbers

abbrev pub viewed_versions : View → List ℕ
viewed_versions v = take v.count v.versions

abbrev pub viewed_locals : View → List ℤ
viewed_locals v = v.locals

-- the version of the topic that is read in a slot; a state has none
abbrev pub slot_version : Tables → List Logged → Slot → ℕ
slot_version p entries (Scalar k) = version p (topic_of p k) entries
slot_version p entries (State k v) = 0

-- the view of a node where these entries lead to this position
pub record IsView (p : Tables) (entries : List Logged) (P : Position) (n : ℕ) (v : View) : Type 0
  where
    pub node : viewed_node v ≡ n
    pub time : viewed_time v ≡ P.at.time
    pub history : viewed_entries v ≡ length entries
    pub numbers : (info : NodeInfo) → At p.nodes n info
        → viewed_numbers v ≡ reading info P.at.scalars P.at.points
    pub versions : (info : NodeInfo) → At p.nodes n info
        → viewed_versions v ≡ map (slot_version p entries) info.reads.items
    pub locals : viewed_locals v ≡ locals_of P.at n
