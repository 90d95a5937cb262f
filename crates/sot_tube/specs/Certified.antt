-- What a certificate shows: fifteen conditions, in the order in which a checker tests them.
use Rattle.std.specs.Prelude.{ℕ, ℤ, if◌then◌else◌, List, [], ◌∷◌, ◌==◌, Some, slice_set, map, ◌+◌}
use Rattle.std.specs.Prelude.{◌*◌, ◌≢◌, ◌<◌}
use Rattle.sot_lang.specs.declared.act.Act.{Act}
use Rattle.sot_lang.specs.declared.cert.Cells.{Cells}
use Rattle.sot_lang.specs.declared.cert.Cert.{Cert}
use Rattle.sot_lang.specs.declared.tables.PlantInfo.{PlantInfo}
use Rattle.sot_lang.specs.declared.tables.NodeInfo.{NodeInfo}
use Rattle.sot_lang.specs.declared.tables.ModuleInfo.{ModuleInfo}
use Rattle.sot_lang.specs.Tables.{Tables}
use Rattle.sot_box.specs.Sides.{Side}
use Rattle.sot_lists.specs.Places.{At}
use Rattle.sot_box.specs.Regions.{IsInRegion, Covers}
use Rattle.sot_lang.specs.Ranges.{range_of}
use Rattle.sot_lang.specs.SafeRegions.{AllHulls}
use Rattle.sot_lang.specs.TableRules.{IsCoded}
use Rattle.sot_iv.specs.declared.drafted.Drafted.{Drafted}
use Rattle.sot_iv.specs.declared.drafted.Drafted.TheVariants.{Absent, Maybe, Sure}
use Rattle.sot_iv.specs.BodyIntervals.{Intervals}
use Rattle.sot_iv.specs.NodeIntervals.{IsNodeIntervals}
use Rattle.sot_iv.specs.TrapFree.{IsTrapFree}
use Rattle.sot_tube.specs.Tubes.{TubeInside, AnyTubeInside}
use Rattle.sot_tube.specs.Composition.{NoSharedNode, NoSharedOutput, NoSharedPlant, NoForeignInput}
use Rattle.sot_tube.specs.Modules.{AreShortPeriods, AreSameOutputs}

-- what is surely drafted, and else the whole type
abbrev pub sure_interval : Side → Drafted → Side
sure_interval whole (Sure r) = r
sure_interval whole (Maybe r) = whole
sure_interval whole Absent = whole

-- the interval of scalar k as a command: what is surely drafted for it by a node that writes these
-- scalars, and else its whole type
abbrev pub command_interval : Tables → List ℕ → List Drafted → ℕ → Side
command_interval p [] ds k = range_of p.scalars k
command_interval p (w ∷ ws) [] k = range_of p.scalars k
command_interval p (w ∷ ws) (d ∷ ds) k =
    if w == k then sure_interval (range_of p.scalars k) d else command_interval p ws ds k

-- the intervals of a plant's commands, one an input scalar
abbrev pub command_intervals : Tables → PlantInfo → NodeInfo → List Drafted → List Side
command_intervals p plant node draft =
    map (command_interval p node.writes.items draft) plant.inputs.items

-- the least intervals of what the safe node drafts with its plant in the cell: the other plants
-- anywhere in the hulls of their safe regions, scalars and locals anywhere in their ranges
pub record DraftsFrom (p : Tables) (a : ModuleInfo) (sc : NodeInfo) (acts : List Act)
    (cell : List Side) (fired : Intervals) : Type 0 where
  pub hulls : List (List Side)
  pub are : AllHulls p hulls
  pub runs : IsNodeIntervals p sc acts (slice_set hulls a.plant cell) fired

-- a closed cell: the safe region covers it, and what the safe node surely drafts from it keeps the
-- plant inside for the node's period and the jitter. That the safe node's evaluation meets no trap
-- in the cell is part of this
pub record IsClosedCell (p : Tables) (jitter : ℕ) (a : ModuleInfo) (plant : PlantInfo)
    (sc : NodeInfo) (acts : List Act) (cell : List Side) : Type 0 where
  pub covered : Covers a.safe.boxes cell
  pub fired : Intervals
  pub drafts : DraftsFrom p a sc acts cell fired
  pub stays : TubeInside p plant (command_intervals p plant sc fired.draft) a.safe.boxes cell
      (sc.period + jitter)

-- a reach cell: any commands keep the plant inside for twice the sum of the module's period and the
-- jitter
abbrev pub IsReachCell : Tables → ℕ → ModuleInfo → PlantInfo → List Side → Type 0
IsReachCell p jitter a plant cell =
    AnyTubeInside p plant a.safe.boxes cell (2 * (a.period + jitter))

-- the certificate has these cells for module m
abbrev pub HasCells : Cert → ℕ → Cells → Type 0
HasCells cert m cells = At cert.modules.items m (Some cells)

-- a program is well certified: all fifteen conditions hold, and the jitter is below every period
pub record IsWellCertified (p : Tables) (jitter : ℕ) (cert : Cert) : Type 0 where
  pub node_jitter : (n : ℕ) (node : NodeInfo) → At p.nodes n node → jitter < node.period
  pub module_jitter : (m : ℕ) (a : ModuleInfo) → At p.modules m a → jitter < a.period
  -- how modules are put together
  pub own_node : NoSharedNode p
  pub own_output : NoSharedOutput p
  pub own_plant : NoSharedPlant p
  pub own_inputs : (m : ℕ) (a : ModuleInfo) → At p.modules m a → NoForeignInput p a
  -- the shape of a module
  pub entries : (m : ℕ) (a : ModuleInfo) → At p.modules m a
      → (cells : Cells) × HasCells cert m cells
  pub periods : (m : ℕ) (a : ModuleInfo) → At p.modules m a → AreShortPeriods p a
  pub outputs : (m : ℕ) (a : ModuleInfo) → At p.modules m a → AreSameOutputs p a
  pub boxes : (m : ℕ) (a : ModuleInfo) → At p.modules m a
      → (a.safe.boxes ≢ []) × (a.safer.boxes ≢ [])
  -- every coded node
  pub trap_free : (n : ℕ) (node : NodeInfo) (acts : List Act) → At p.nodes n node
      → IsCoded node acts → IsTrapFree p node acts
  -- the cells of a module: they cover its regions, and each of them keeps the plant inside
  pub closed_cover : (m : ℕ) (a : ModuleInfo) (cells : Cells) → At p.modules m a
      → HasCells cert m cells → (s : List ℤ) → IsInRegion a.safe.boxes s
      → IsInRegion cells.closed.boxes s
  pub closed_cells : (m : ℕ) (a : ModuleInfo) (plant : PlantInfo) (sc : NodeInfo) (acts : List Act)
      (cells : Cells) (i : ℕ) (cell : List Side) → At p.modules m a → At p.plants a.plant plant
      → At p.nodes a.sc sc → IsCoded sc acts → HasCells cert m cells → At cells.closed.boxes i cell
      → IsClosedCell p jitter a plant sc acts cell
  pub reach_cover : (m : ℕ) (a : ModuleInfo) (cells : Cells) → At p.modules m a
      → HasCells cert m cells → (s : List ℤ) → IsInRegion a.safer.boxes s
      → IsInRegion cells.reach.boxes s
  pub reach_cells : (m : ℕ) (a : ModuleInfo) (plant : PlantInfo) (cells : Cells) (i : ℕ)
      (cell : List Side) → At p.modules m a → At p.plants a.plant plant → HasCells cert m cells
      → At cells.reach.boxes i cell → IsReachCell p jitter a plant cell
