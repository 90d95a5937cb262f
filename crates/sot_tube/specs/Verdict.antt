-- What a checker answers: acceptance, or the first condition that fails, with its evidence.
use Rattle.std.specs.Prelude.{ℕ, ℤ, true, false, List, [], Err, ◌≡◌, ◌⊎◌, ◌+◌, ◌*◌, ◌≢◌, ◌<◌}
use Rattle.sot_lang.specs.declared.act.Act.{Act}
use Rattle.sot_lang.specs.declared.cert.Cells.{Cells}
use Rattle.sot_lang.specs.declared.cert.Cert.{Cert}
use Rattle.sot_lang.specs.declared.tables.PlantInfo.{PlantInfo}
use Rattle.sot_lang.specs.declared.tables.NodeInfo.{NodeInfo}
use Rattle.sot_lang.specs.declared.tables.ModuleInfo.{ModuleInfo}
use Rattle.sot_lang.specs.Tables.{Tables}
use Rattle.sot_box.specs.Sides.{Side}
use Rattle.sot_lists.specs.Places.{At}
use Rattle.sot_box.specs.Regions.{IsInRegion, Covers, IsFirstGap}
use Rattle.sot_lang.specs.TableRules.{IsCoded}
use Rattle.sot_iv.specs.declared.may_trap.MayTrap.{MayTrap}
use Rattle.sot_iv.specs.BodyIntervals.{Intervals}
use Rattle.sot_iv.specs.TrapFree.{IsSafeExecution, IsTrapFree}
use Rattle.sot_tube.specs.declared.leave.Leave.{Leave}
use Rattle.sot_tube.specs.declared.leave.Leave.TheVariants.{Out, Trap}
use Rattle.sot_tube.specs.Topics.{WritesTopic, IsInputTopic}
use Rattle.sot_tube.specs.Composition.{UsesNode, ArePartners, NoSharedNode, NoSharedOutput}
use Rattle.sot_tube.specs.Composition.{NoSharedPlant, NoForeignInput}
use Rattle.sot_tube.specs.Modules.{AreShortPeriods, AreSameOutputs}
use Rattle.sot_tube.specs.Leaves.{GoesOut, TubeLeaves, AnyTubeLeaves}
use Rattle.sot_tube.specs.Certified.{HasCells, DraftsFrom, command_intervals, IsClosedCell}
use Rattle.sot_tube.specs.Certified.{IsReachCell}
use Rattle.sot_tube.specs.Refusals.{Refusal, Periods, Outputs, EmptyRegion, ClosedGap, ClosedTrap}
use Rattle.sot_tube.specs.Refusals.{ClosedLeaves, ReachGap, ReachLeaves, ReachTrap, SharedNode}
use Rattle.sot_tube.specs.Refusals.{SharedOutput, SharedPlant, ForeignInput, CodeMayTrap, NoCells}
use Rattle.sot_tube.specs.Checks.{Check, and_then, for_each, of_the, IsLeastNumber, IsLeastClash}

-- 1. how modules are put together

-- modules m and m' use node n
abbrev pub ShareNode : Tables → ℕ → ℕ → ℕ → Type 0
ShareNode p n m m' =
    (a b : ModuleInfo) × At p.modules m a × At p.modules m' b × UsesNode a n × UsesNode b n

-- nodes n and n' write topic t, and are not the two nodes of a module
abbrev pub ShareOutput : Tables → ℕ → ℕ → ℕ → Type 0
ShareOutput p t n n' =
    (a b : NodeInfo) × At p.nodes n a × At p.nodes n' b × WritesTopic p a t × WritesTopic p b t
    × (ArePartners p n n' → ⊥)

-- modules m and m' name plant k
abbrev pub SharePlant : Tables → ℕ → ℕ → ℕ → Type 0
SharePlant p k m m' =
    (a b : ModuleInfo) × At p.modules m a × At p.modules m' b × (a.plant ≡ k) × (b.plant ≡ k)

-- topic t is an input topic of the module's plant, and its safe node does not write it
abbrev pub IsForeignInput : Tables → ModuleInfo → ℕ → Type 0
IsForeignInput p a t =
    (plant : PlantInfo) × (sc : NodeInfo) × At p.plants a.plant plant × At p.nodes a.sc sc
    × IsInputTopic p plant t × (WritesTopic p sc t → ⊥)

abbrev pub shared_node : Tables → Check
shared_node p = record {
  Passes = NoSharedNode p;
  Refuses = λ r. (n m m' : ℕ) × IsLeastClash (ShareNode p) n m m' × (r ≡ SharedNode n m m');
}

abbrev pub shared_output : Tables → Check
shared_output p = record {
  Passes = NoSharedOutput p;
  Refuses = λ r. (t n n' : ℕ) × IsLeastClash (ShareOutput p) t n n' × (r ≡ SharedOutput t n n');
}

abbrev pub shared_plant : Tables → Check
shared_plant p = record {
  Passes = NoSharedPlant p;
  Refuses = λ r. (k m m' : ℕ) × IsLeastClash (SharePlant p) k m m' × (r ≡ SharedPlant k m m');
}

abbrev pub foreign_input : Tables → ℕ → ModuleInfo → Check
foreign_input p m a = record {
  Passes = NoForeignInput p a;
  Refuses = λ r. (t : ℕ) × IsLeastNumber (IsForeignInput p a) t × (r ≡ ForeignInput m t);
}

-- the checks of how all modules are put together, in order
abbrev pub composition : Tables → Check
composition p =
    and_then (shared_node p) (and_then (shared_output p)
    (and_then (shared_plant p) (for_each p.modules (foreign_input p))))

-- 2. the shape of a module

-- the period of node n is longer than the module's
abbrev pub IsLonger : Tables → ModuleInfo → ℕ → Type 0
IsLonger p a n = (node : NodeInfo) × At p.nodes n node × (a.period < node.period)

-- topic t is written by one of the module's two nodes alone
abbrev pub IsWrittenByOne : Tables → ModuleInfo → ℕ → Type 0
IsWrittenByOne p a t =
    (ac sc : NodeInfo) × At p.nodes a.ac ac × At p.nodes a.sc sc
    × ((WritesTopic p ac t × (WritesTopic p sc t → ⊥))
    ⊎ (WritesTopic p sc t × (WritesTopic p ac t → ⊥)))

abbrev pub entry : Cert → ℕ → Check
entry cert m = record {
  Passes = (cells : Cells) × HasCells cert m cells;
  Refuses = λ r. ((cells : Cells) → HasCells cert m cells → ⊥) × (r ≡ NoCells m);
}

-- the advanced node before the safe node
abbrev pub periods : Tables → ℕ → ModuleInfo → Check
periods p m a = record {
  Passes = AreShortPeriods p a;
  Refuses = λ r.
      (IsLonger p a a.ac × (r ≡ Periods m a.ac))
      ⊎ ((IsLonger p a a.ac → ⊥) × IsLonger p a a.sc × (r ≡ Periods m a.sc));
}

abbrev pub outputs : Tables → ℕ → ModuleInfo → Check
outputs p m a = record {
  Passes = AreSameOutputs p a;
  Refuses = λ r. (t : ℕ) × IsLeastNumber (IsWrittenByOne p a) t × (r ≡ Outputs m t);
}

-- the safe region before the safer one
abbrev pub boxes : ℕ → ModuleInfo → Check
boxes m a = record {
  Passes = (a.safe.boxes ≢ []) × (a.safer.boxes ≢ []);
  Refuses = λ r.
      ((a.safe.boxes ≡ []) × (r ≡ EmptyRegion m false))
      ⊎ ((a.safe.boxes ≢ []) × (a.safer.boxes ≡ []) × (r ≡ EmptyRegion m true));
}

-- the checks of a module's shape, in order
abbrev pub shape : Tables → Cert → ℕ → ModuleInfo → Check
shape p cert m a =
    and_then (entry cert m) (and_then (periods p m a) (and_then (outputs p m a) (boxes m a)))

-- 3. coded nodes

abbrev pub trap_free : Tables → ℕ → NodeInfo → List Act → Check
trap_free p n node acts = record {
  Passes = IsTrapFree p node acts;
  Refuses =
      λ r. (t : MayTrap) × IsSafeExecution p node acts (Err t)
      × (r ≡ CodeMayTrap n t.at t.kind t.lo t.hi);
}

abbrev pub code : Tables → ℕ → NodeInfo → Check
code p n node = of_the (IsCoded node) (trap_free p n node)

-- 4. the cells of a module

-- the refusal of a closed cell, and of a reach cell, by the way in which its tube leaves
abbrev pub closed_refusal : ℕ → ℕ → Leave → Refusal
closed_refusal m i (Out tick area point) = ClosedLeaves m i tick area point
closed_refusal m i (Trap tick at) = ClosedTrap m i tick at

abbrev pub reach_refusal : ℕ → ℕ → Leave → Refusal
reach_refusal m i (Out tick area point) = ReachLeaves m i tick area point
reach_refusal m i (Trap tick at) = ReachTrap m i tick at

abbrev pub closed_cover : ℕ → ModuleInfo → Cells → Check
closed_cover m a cells = record {
  Passes = (s : List ℤ) → IsInRegion a.safe.boxes s → IsInRegion cells.closed.boxes s;
  Refuses = λ r. (s : List ℤ) × IsFirstGap a.safe.boxes cells.closed.boxes s × (r ≡ ClosedGap m s);
}

abbrev pub reach_cover : ℕ → ModuleInfo → Cells → Check
reach_cover m a cells = record {
  Passes = (s : List ℤ) → IsInRegion a.safer.boxes s → IsInRegion cells.reach.boxes s;
  Refuses = λ r. (s : List ℤ) × IsFirstGap a.safer.boxes cells.reach.boxes s × (r ≡ ReachGap m s);
}

-- how the held tube of a closed cell leaves: a cell that the safe region does not cover leaves at
-- tick 0, whatever the safe node drafts there
abbrev pub ClosedCellLeaves : Tables → ℕ → ModuleInfo → PlantInfo → NodeInfo → List Act → List Side
    → Leave → Type 0
ClosedCellLeaves p jitter a plant sc acts cell leave =
    GoesOut a.safe.boxes cell 0 leave
    ⊎ (Covers a.safe.boxes cell × (fired : Intervals) × DraftsFrom p a sc acts cell fired
    × TubeLeaves p plant (command_intervals p plant sc fired.draft) a.safe.boxes cell
    (sc.period + jitter) leave)

abbrev pub closed_cell : Tables → ℕ → ℕ → ModuleInfo → PlantInfo → NodeInfo → List Act → ℕ
    → List Side → Check
closed_cell p jitter m a plant sc acts i cell = record {
  Passes = IsClosedCell p jitter a plant sc acts cell;
  Refuses =
      λ r. (leave : Leave) × ClosedCellLeaves p jitter a plant sc acts cell leave
      × (r ≡ closed_refusal m i leave);
}

abbrev pub reach_cell : Tables → ℕ → ℕ → ModuleInfo → PlantInfo → ℕ → List Side → Check
reach_cell p jitter m a plant i cell = record {
  Passes = IsReachCell p jitter a plant cell;
  Refuses =
      λ r. (leave : Leave) × AnyTubeLeaves p plant a.safe.boxes cell (2 * (a.period + jitter)) leave
      × (r ≡ reach_refusal m i leave);
}

-- the checks of a module's cells, in order, given its plant, its safe node, that node's body and
-- the cells
abbrev pub cell_checks : Tables → ℕ → ℕ → ModuleInfo → PlantInfo → NodeInfo → List Act → Cells
    → Check
cell_checks p jitter m a plant sc acts cells =
    and_then (closed_cover m a cells)
    (and_then (for_each cells.closed.boxes (closed_cell p jitter m a plant sc acts))
    (and_then (reach_cover m a cells) (for_each cells.reach.boxes (reach_cell p jitter m a plant))))

abbrev pub cells_of : Tables → ℕ → Cert → ℕ → ModuleInfo → Check
cells_of p jitter cert m a =
    of_the (At p.plants a.plant) (λ plant.
    of_the (At p.nodes a.sc) (λ sc. of_the (IsCoded sc) (λ acts.
    of_the (HasCells cert m) (λ cells. cell_checks p jitter m a plant sc acts cells))))

-- all checks: how the modules are put together, then the shape of each, then each coded node, then
-- the cells of each module
abbrev pub verdict : Tables → ℕ → Cert → Check
verdict p jitter cert =
    and_then (composition p)
    (and_then (for_each p.modules (shape p cert))
    (and_then (for_each p.nodes (code p)) (for_each p.modules (cells_of p jitter cert))))
