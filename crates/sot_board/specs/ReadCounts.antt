-- Counts of topics, as they are read slot by slot.
use Rattle.std.specs.Prelude.{ℕ, ◌<◌, List, length, slice_index_or}
use Rattle.sot_lang.specs.declared.tables.Slot.{Slot}
use Rattle.sot_lang.specs.declared.tables.Slot.TheVariants.{Scalar, State}
use Rattle.sot_lang.specs.Tables.{Tables}
use Rattle.sot_board.specs.Versions.{topic_of}

-- the scalar of a slot exists, and its topic has a count
abbrev pub HasCount : Tables → List ℕ → Slot → Type 0
HasCount p counts (Scalar k) = (k < length p.scalars) × (topic_of p k < length counts)
HasCount p counts (State k v) = Unit {0}

-- the count of the slot's topic, and 0 for a state
abbrev pub count_of : Tables → List ℕ → Slot → ℕ
count_of p counts (Scalar k) = slice_index_or counts (topic_of p k) 0
count_of p counts (State k v) = 0
