-- Least intervals of a node, with plants in boxes.
use Rattle.std.specs.Prelude.{pos, List, [], Ok, slice_index_or, map}
use Rattle.sot_lang.specs.declared.act.Act.{Act}
use Rattle.sot_lang.specs.declared.tables.Slot.{Slot}
use Rattle.sot_lang.specs.declared.tables.Slot.TheVariants.{Scalar, State}
use Rattle.sot_lang.specs.declared.tables.NodeInfo.{NodeInfo}
use Rattle.sot_lang.specs.Tables.{Tables}
use Rattle.sot_box.specs.Sides.{Side}
use Rattle.sot_lang.specs.Ranges.{range_of, local_ranges, write_ranges}
use Rattle.sot_iv.specs.TermIntervals.{OrMayTrap}
use Rattle.sot_iv.specs.BodyIntervals.{Intervals, IsExecutionIntervals}

-- the range of what a node reads, with plants in these boxes
abbrev pub interval_at : Tables → List (List Side) → Slot → Side
interval_at p boxes (Scalar k) = range_of p.scalars k
interval_at p boxes (State k v) =
    slice_index_or (slice_index_or boxes k []) v (record { lo = pos 0; hi = pos 0 })

-- the intervals of all that a node reads, with plants in these boxes
abbrev pub reading_intervals : Tables → NodeInfo → List (List Side) → List Side
reading_intervals p node boxes = map (interval_at p boxes) node.reads.items

-- what the body of a node leaves, or the first trap: topics and locals anywhere in their ranges,
-- plants in these boxes
abbrev pub IsNodeExecution : Tables → NodeInfo → List Act → List (List Side) → OrMayTrap Intervals
    → Type 0
IsNodeExecution p node acts boxes o =
    IsExecutionIntervals acts (local_ranges node) (write_ranges p node)
    (reading_intervals p node boxes) (local_ranges node) o

-- the body of a node leaves these intervals, and has no trapping operand
abbrev pub IsNodeIntervals : Tables → NodeInfo → List Act → List (List Side) → Intervals → Type 0
IsNodeIntervals p node acts boxes f = IsNodeExecution p node acts boxes (Ok f)
