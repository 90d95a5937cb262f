-- What a trap-free node may be trusted with.
use Rattle.std.specs.Prelude.{◌≡◌, ℕ, ℤ, List, Ok}
use Rattle.sot_lists.specs.Places.{At}
use Rattle.sot_box.specs.Boxes.{IsWithin}
use Rattle.sot_lang.specs.declared.act.Act.{Act}
use Rattle.sot_lang.specs.declared.tables.NodeInfo.{NodeInfo}
use Rattle.sot_lang.specs.Tables.{Tables}
use Rattle.sot_lang.specs.TableRules.{IsTyped}
use Rattle.sot_lang.specs.Bodies.{Fired, execution}
use Rattle.sot_lang.specs.Readings.{reading}
use Rattle.sot_lang.specs.Ranges.{scalar_ranges, local_ranges, write_ranges}
use Rattle.sot_lang.specs.SafeRegions.{AllSafe}
use Rattle.sot_iv.specs.TrapFree.{IsTrapFree}

-- an execution of a trap-free node succeeds where each plant is in its safe region, and scalars and
-- locals are in their ranges
abbrev pub TrapFreeNodesNeverTrap : Type 0
TrapFreeNodesNeverTrap =
    (p : Tables) (n : ℕ) (node : NodeInfo) (acts : List Act) (scalars locals : List ℤ)
    (points : List (List ℤ))
    → IsTyped p → At p.nodes n node → IsTrapFree p node acts
    → IsWithin (scalar_ranges p) scalars → AllSafe p points → IsWithin (local_ranges node) locals
    → (g : Fired) × (execution acts (local_ranges node) (write_ranges p node)
    (reading node scalars points) locals ≡ Ok g)
