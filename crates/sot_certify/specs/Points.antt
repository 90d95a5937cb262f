-- Failing points: the tube of each leaves.
use Rattle.std.specs.Prelude.{◌≡◌, ℕ, ◌*◌, ℤ, Bool, false, true, List}
use Rattle.sot_box.specs.Boxes.{point_box}
use Rattle.sot_box.specs.Regions.{IsInRegion}
use Rattle.sot_lists.specs.Places.{At}
use Rattle.sot_lang.specs.declared.act.Act.{Act}
use Rattle.sot_lang.specs.declared.tables.PlantInfo.{PlantInfo}
use Rattle.sot_lang.specs.declared.tables.NodeInfo.{NodeInfo}
use Rattle.sot_lang.specs.declared.tables.ModuleInfo.{ModuleInfo}
use Rattle.sot_lang.specs.Tables.{Tables}
use Rattle.sot_lang.specs.TableRules.{IsCoded}
use Rattle.sot_iv.specs.BodyIntervals.{Intervals}
use Rattle.sot_tube.specs.Tubes.{TubeInside, AnyTubeInside}
use Rattle.sot_tube.specs.declared.leave.Leave.{Leave}
use Rattle.sot_tube.specs.Leaves.{TubeLeaves, AnyTubeLeaves}
use Rattle.sot_tube.specs.Certified.{DraftsFrom, command_intervals}
use Rattle.sot_certify.specs.declared.fail.CertifyFail.{CertifyFail}
use Rattle.sot_certify.specs.declared.fail.CertifyFail.TheVariants.{Refused, Point, TooMany, Memory}
use Rattle.sot_certify.specs.Made.{region_of}

-- A tube that is not inside the region has, at some tick from 0 to its last, a box with a state
-- outside, or a step to the next tick in which some operands may trap; `way` says which of them
-- comes first, and where. Boxes are least intervals, with the seen plants in the hulls of their
-- safe regions and disturbances in their bounds, so the plant itself may stay inside.

-- of closed cells: the safe node meets no trap from the point, and what it drafts there is one
-- thing; and under what it surely drafts the tube of its period is not inside the safe region, and
-- leaves it in this way
pub record LeavesUnderSafeNode (p : Tables) (a : ModuleInfo) (s : List ℤ) : Type 0 where
  pub plant : PlantInfo
  pub plant_is : At p.plants a.plant plant
  pub sc : NodeInfo
  pub sc_is : At p.nodes a.sc sc
  pub acts : List Act
  pub coded : IsCoded sc acts
  pub fired : Intervals
  pub drafts : DraftsFrom p a sc acts (point_box s) fired
  pub only : (other : Intervals) → DraftsFrom p a sc acts (point_box s) other → other ≡ fired
  pub outside : TubeInside p plant (command_intervals p plant sc fired.draft) a.safe.boxes
      (point_box s) sc.period → ⊥
  pub way : Leave
  pub leaves : TubeLeaves p plant (command_intervals p plant sc fired.draft) a.safe.boxes
      (point_box s) sc.period way

-- of reach cells: under any commands the tube of two periods of the module is not inside the safe
-- region, and leaves it in this way
pub record LeavesUnderAny (p : Tables) (a : ModuleInfo) (s : List ℤ) : Type 0 where
  pub plant : PlantInfo
  pub plant_is : At p.plants a.plant plant
  pub outside : AnyTubeInside p plant a.safe.boxes (point_box s) (2 * a.period) → ⊥
  pub way : Leave
  pub leaves : AnyTubeLeaves p plant a.safe.boxes (point_box s) (2 * a.period) way

-- the tube of the point, as the list asks for
abbrev pub OwnTubeLeaves : Tables → ModuleInfo → Bool → List ℤ → Type 0
OwnTubeLeaves p a false s = LeavesUnderSafeNode p a s
OwnTubeLeaves p a true s = LeavesUnderAny p a s

-- the point lies in the region whose cells the list gives, and its own tube leaves
pub record PointTubeLeaves (p : Tables) (m : ℕ) (reach : Bool) (s : List ℤ) : Type 0 where
  pub module_info : ModuleInfo
  pub is : At p.modules m module_info
  pub in_region : IsInRegion (region_of module_info reach).boxes s
  pub leaves : OwnTubeLeaves p module_info reach s

-- where the answer is a point, its own tube leaves
abbrev pub IfPointLeaves : Tables → CertifyFail → Type 0
IfPointLeaves p (Refused r) = Unit {0}
IfPointLeaves p (Point m reach s) = PointTubeLeaves p m reach s
IfPointLeaves p (TooMany m reach) = Unit {0}
IfPointLeaves p Memory = Unit {0}
