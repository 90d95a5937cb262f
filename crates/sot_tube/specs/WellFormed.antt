-- A program whose modules keep their plants safe, point by point: no cells of a certificate, no
-- tubes.
use Rattle.std.specs.Prelude.{ℕ, ℤ, List, [], Ok, slice_index_or, ◌≡◌, Some, Option, ◌+◌, ◌*◌, ◌<◌}
use Rattle.sot_lang.specs.declared.act.Act.{Act}
use Rattle.sot_lang.specs.declared.tables.Slot.TheVariants.{State}
use Rattle.sot_lang.specs.declared.tables.PlantInfo.{PlantInfo}
use Rattle.sot_lang.specs.declared.tables.NodeInfo.{NodeInfo}
use Rattle.sot_lang.specs.declared.tables.ModuleInfo.{ModuleInfo}
use Rattle.sot_lang.specs.Tables.{Tables}
use Rattle.sot_lists.specs.Places.{At, Has}
use Rattle.sot_box.specs.Boxes.{IsWithin}
use Rattle.sot_box.specs.Regions.{IsInRegion}
use Rattle.sot_lang.specs.Ranges.{input_ranges, scalar_ranges, local_ranges, write_ranges}
use Rattle.sot_lang.specs.Bodies.{Fired, acts, execution}
use Rattle.sot_lang.specs.SafeRegions.{safe_of}
use Rattle.sot_lang.specs.Reach.{AnyReach, HeldReach, AllInside}
use Rattle.sot_lang.specs.Readings.{reading}
use Rattle.sot_lang.specs.TableRules.{IsCoded}
use Rattle.sot_tube.specs.Composition.{IsComposed}
use Rattle.sot_tube.specs.Modules.{AreShortPeriods, AreSameOutputs}

-- what a node may meet when it fires: every scalar and local anywhere in its range, and each plant
-- that the node reads anywhere in its safe region
pub record MayMeet (p : Tables) (node : NodeInfo) (scalars : List ℤ) (points : List (List ℤ))
    (locals : List ℤ) : Type 0 where
  pub scalars_in : IsWithin (scalar_ranges p) scalars
  pub plants_in : (k v : ℕ) → Has node.reads.items (State k v)
      → IsInRegion (safe_of p.modules k) (slice_index_or points k [])
  pub locals_in : IsWithin (local_ranges node) locals

-- what the body of a node gives on these numbers and points
abbrev pub FiresTo : Tables → NodeInfo → List Act → List ℤ → List (List ℤ) → List ℤ → Fired → Type 0
FiresTo p node acts scalars points locals fired =
    execution acts (local_ranges node) (write_ranges p node) (reading node scalars points) locals
    ≡ Ok fired

-- a coded node does not trap, whatever it meets
abbrev pub NeverTraps : Tables → NodeInfo → List Act → Type 0
NeverTraps p node acts =
    (scalars : List ℤ) (points : List (List ℤ)) (locals : List ℤ)
    → MayMeet p node scalars points locals
    → (fired : Fired) × FiresTo p node acts scalars points locals fired

-- the commands c of a plant have each number that the node drafts for one of them
abbrev pub Agrees : PlantInfo → NodeInfo → List (Option ℤ) → List ℤ → Type 0
Agrees plant node draft c =
    (i j k : ℕ) (z : ℤ) → At node.writes.items i k → At plant.inputs.items j k → At draft i (Some z)
    → At c j z

-- from each point s of the safe region, whatever the safe node meets with its plant at s: commands
-- in their types that agree with its draft and are held keep the plant inside for the node's period
-- and the jitter
abbrev pub HoldsForAPeriod : Tables → ℕ → ModuleInfo → PlantInfo → NodeInfo → List Act → Type 0
HoldsForAPeriod p jitter a plant sc acts =
    (s : List ℤ) (scalars : List ℤ) (points : List (List ℤ)) (locals : List ℤ) (fired : Fired)
    (c : List ℤ)
    → IsInRegion a.safe.boxes s → slice_index_or points a.plant [] ≡ s
    → MayMeet p sc scalars points locals → FiresTo p sc acts scalars points locals fired
    → IsWithin (input_ranges p plant) c → Agrees plant sc fired.draft c
    → AllInside (HeldReach p plant s c (sc.period + jitter)) a.safe.boxes

-- from each point of the safer region, any commands keep the plant inside for twice the sum of the
-- module's period and the jitter
abbrev pub HoldsForTwoPeriods : Tables → ℕ → ModuleInfo → PlantInfo → Type 0
HoldsForTwoPeriods p jitter a plant =
    (s : List ℤ) → IsInRegion a.safer.boxes s
    → AllInside (AnyReach p plant s (2 * (a.period + jitter))) a.safe.boxes

-- a program is well formed point by point; each firing may be late by as many ticks as the jitter
pub record IsWellFormed (p : Tables) (jitter : ℕ) : Type 0 where
  pub node_jitter : (n : ℕ) (node : NodeInfo) → At p.nodes n node → jitter < node.period
  pub module_jitter : (m : ℕ) (a : ModuleInfo) → At p.modules m a → jitter < a.period
  pub composed : IsComposed p
  pub periods : (m : ℕ) (a : ModuleInfo) → At p.modules m a → AreShortPeriods p a
  pub outputs : (m : ℕ) (a : ModuleInfo) → At p.modules m a → AreSameOutputs p a
  pub no_trap : (n : ℕ) (node : NodeInfo) (acts : List Act) → At p.nodes n node → IsCoded node acts
      → NeverTraps p node acts
  pub safe_holds : (m : ℕ) (a : ModuleInfo) (plant : PlantInfo) (sc : NodeInfo) (acts : List Act)
      → At p.modules m a → At p.plants a.plant plant → At p.nodes a.sc sc → IsCoded sc acts
      → HoldsForAPeriod p jitter a plant sc acts
  pub safer_holds : (m : ℕ) (a : ModuleInfo) (plant : PlantInfo) → At p.modules m a
      → At p.plants a.plant plant → HoldsForTwoPeriods p jitter a plant
