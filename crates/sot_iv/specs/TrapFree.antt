-- Nodes whose executions never trap, shown by intervals.
use Rattle.std.specs.Prelude.{List}
use Rattle.sot_lang.specs.declared.act.Act.{Act}
use Rattle.sot_lang.specs.declared.tables.NodeInfo.{NodeInfo}
use Rattle.sot_lang.specs.Tables.{Tables}
use Rattle.sot_lang.specs.SafeRegions.{AllHulls}
use Rattle.sot_box.specs.Sides.{Side}
use Rattle.sot_iv.specs.TermIntervals.{OrMayTrap}
use Rattle.sot_iv.specs.BodyIntervals.{Intervals}
use Rattle.sot_iv.specs.NodeIntervals.{IsNodeExecution, IsNodeIntervals}

-- what the body of a node leaves, or the first trap: topics and locals anywhere in their ranges,
-- plants in the hulls of their safe regions
abbrev pub IsSafeExecution : Tables → NodeInfo → List Act → OrMayTrap Intervals → Type 0
IsSafeExecution p node acts o =
    (hulls : List (List Side)) × AllHulls p hulls × IsNodeExecution p node acts hulls o

-- the body of a node has no trapping operand then
abbrev pub IsTrapFree : Tables → NodeInfo → List Act → Type 0
IsTrapFree p node acts =
    (hulls : List (List Side)) × AllHulls p hulls
    × ((f : Intervals) × IsNodeIntervals p node acts hulls f)
