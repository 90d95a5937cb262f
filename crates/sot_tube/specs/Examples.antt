-- Worked tubes, certificates and well-formed programs, as statements that functions without a body
-- prove.
use Rattle.std.specs.Prelude.{ℤ, pos, negsuc, Option, List, [], ◌∷◌, Some, ◌≡◌, false}
use Rattle.std.proofs.Common.{refl}
use Rattle.std.specs.Global.{Global, Vec}
use Rattle.sot_lang.specs.declared.act.Act.{Act}
use Rattle.sot_box.specs.Sides.{Side}
use Rattle.sot_syntax_tree.specs.declared.operator.Op.TheVariants.{Add, Div}
use Rattle.sot_lang.specs.declared.term.Term.TheVariants.{Number, Place, Binary'}
use Rattle.sot_lang.specs.declared.cert.Cells.{Cells}
use Rattle.sot_lang.specs.declared.cert.Cert.{Cert}
use Rattle.sot_lang.specs.declared.tables.PlantInfo.{PlantInfo}
use Rattle.sot_lang.specs.declared.tables.NodeInfo.{NodeInfo}
use Rattle.sot_lang.specs.declared.tables.ModuleInfo.{ModuleInfo}
use Rattle.sot_lang.specs.Tables.{Tables}
use Rattle.sot_lang.specs.SafeRegions.{AllSafe}
use Rattle.sot_lang.specs.Line.{line, line_cert, fast, slow, nav, pos_plant, slow_acts, vec, boxed}
use Rattle.sot_lang.specs.Line.{side, somewhere}
use Rattle.sot_iv.specs.declared.drafted.Drafted.TheVariants.{Absent, Maybe, Sure}
use Rattle.sot_tube.specs.declared.leave.Leave.TheVariants.{Out, Trap}
use Rattle.sot_tube.specs.Tubes.{AnyTubeInside, Keeps}
use Rattle.sot_tube.specs.Leaves.{AnyTubeLeaves}
use Rattle.sot_tube.specs.WellFormed.{MayMeet}
use Rattle.sot_tube.specs.Certified.{command_intervals, IsWellCertified}
use Rattle.sot_tube.specs.Verdict.{ClosedCellLeaves}

-- the box from lo to hi on one axis
abbrev pub segment : ℤ → ℤ → List Side
segment lo hi = side lo hi ∷ []

-- the point at x on one axis
abbrev pub at_x : ℤ → List ℤ
at_x x = x ∷ []

module _ (g : Global) where
  -- the running example with another safer region of its module
  abbrev pub nav_with : List (List Side) → ModuleInfo
  nav_with safer = record (nav g) { safer = record { width = 1; boxes = safer; settled = false } }

  abbrev pub line_with : List (List Side) → Tables
  line_with safer = record (line g) { modules = nav_with safer ∷ [] }

  -- the running example with another safer region of its module and another body of its safe node
  abbrev pub line_body : List (List Side) → Option (Vec Act) → Tables
  line_body safer body =
      record (line_with safer) { nodes = fast g ∷ record (slow g) { body = body } ∷ [] }

  -- its certificate with other cells
  abbrev pub cells_with : List (List Side) → List (List Side) → Cells
  cells_with closed reach =
      record {
        closed = record { width = 1; boxes = closed; settled = false };
        reach = record { width = 1; boxes = reach; settled = false };
      }

  abbrev pub cert_with : Cells → Cert
  cert_with cells = record { jitter = 0; modules = vec g (Some cells ∷ []) refl }

  -- the running example with other nodes
  abbrev pub line_nodes : NodeInfo → NodeInfo → Tables
  line_nodes ac sc = record (line g) { nodes = ac ∷ sc ∷ [] }

  -- the running example as it is flown: `fast` at offset 2, `slow` with period 4 and offset 1
  abbrev pub line1 : Tables
  line1 = line_nodes (record (fast g) { offset = 2 }) (record (slow g) { period = 4; offset = 1 })

  -- the running example is well certified
  abbrev pub LineIsCertified : Type 0
  LineIsCertified = IsWellCertified (line g) 0 (line_cert g)

  -- from 12 the plant is kept for two periods, since 12 + 8 * 3 is 36; from 20 it is not, since 20
  -- + 8 * 3 is 44; one period alone would keep it
  abbrev pub KeptAt12 : Type 0
  KeptAt12 = Keeps line1 0 (nav g) (at_x (pos 12)) × (Keeps line1 0 (nav g) (at_x (pos 20)) → ⊥)

  -- a jitter of 1 makes ten ticks of eight: 10 + 10 * 3 is 40, and 11 + 10 * 3 is 41
  abbrev pub JitterIsTwice : Type 0
  JitterIsTwice =
      Keeps line1 1 (nav g) (at_x (pos 10)) × (Keeps line1 1 (nav g) (at_x (pos 11)) → ⊥)

  -- the tube from [-16..16] touches the ends of the safe region at tick 8, and that from [-17..17]
  -- leaves it there
  abbrev pub TubesOfTheLine : Type 0
  TubesOfTheLine =
      AnyTubeInside (line g) (pos_plant g) (nav g).safe.boxes (segment (negsuc 15) (pos 16)) 8
      × AnyTubeLeaves (line g) (pos_plant g) (nav g).safe.boxes (segment (negsuc 16) (pos 17)) 8
      (Out 8 (segment (negsuc 40) (pos 41)) (at_x (negsuc 40)))

  -- commands: what is surely drafted, and else the whole type
  abbrev pub CommandsAreSureOrWhole : Type 0
  CommandsAreSureOrWhole =
      (command_intervals (line g) (pos_plant g) (slow g) (Sure (side (pos 1) (pos 1)) ∷ [])
      ≡ segment (pos 1) (pos 1))
      × (command_intervals (line g) (pos_plant g) (slow g) (Maybe (side (pos 1) (pos 1)) ∷ [])
      ≡ segment (negsuc 1) (pos 2))
      × (command_intervals (line g) (pos_plant g) (slow g) (Absent ∷ [])
      ≡ segment (negsuc 1) (pos 2))
      × (command_intervals (line g) (pos_plant g) (record (slow g) { writes = vec g [] refl }) []
      ≡ segment (negsuc 1) (pos 2))

  -- from the whole safe region the safe node's conditions are undecided, so the held tube has all
  -- commands and leaves at tick 1
  abbrev pub WholeCellLeaves : Type 0
  WholeCellLeaves =
      ClosedCellLeaves (line g) 0 (nav g) (pos_plant g) (slow g) (slow_acts g)
      (segment (negsuc 39) (pos 40))
      (Out 1 (segment (negsuc 42) (pos 43)) (at_x (negsuc 42)))

  -- a cell that the safe region does not cover leaves at tick 0
  abbrev pub WideCellLeavesAtOnce : Type 0
  WideCellLeavesAtOnce =
      ClosedCellLeaves (line g) 0 (nav g) (pos_plant g) (slow g) (slow_acts g)
      (segment (negsuc 9) (pos 41))
      (Out 0 (segment (negsuc 9) (pos 41)) (at_x (pos 41)))

  -- a plant that sees `pos` and moves by its place
  abbrev pub follower : PlantInfo
  follower =
      record (pos_plant g) {
        sees = vec g (0 ∷ []) refl;
        next = vec g (Binary' Add (boxed g) (Place 0) (boxed g) (Place 2) somewhere ∷ []) refl;
      }

  -- the safe region in two pieces
  abbrev pub split : Tables
  split =
      record (line g) {
        modules = record (nav g) {
          safe = record {
            width = 1;
            boxes =
                segment (negsuc 39) (negsuc 29) ∷ segment (pos 30) (pos 40) ∷ [];
            settled = false;
          };
        } ∷ [];
      }

  -- a seen plant is anywhere in the least box around its safe region: not in its safer region, and
  -- also between the pieces
  abbrev pub SeenPlantsAreInHulls : Type 0
  SeenPlantsAreInHulls =
      AnyTubeLeaves (line g) follower (segment (negsuc 38) (pos 40) ∷ []) (segment (pos 0) (pos 0))
      1
      (Out 1 (segment (negsuc 39) (pos 40)) (at_x (negsuc 39)))
      × AnyTubeLeaves split follower (segment (negsuc 38) (pos 40) ∷ []) (segment (pos 0) (pos 0)) 1
      (Out 1 (segment (negsuc 39) (pos 40)) (at_x (negsuc 39)))

  -- a plant that divides 10 by its place
  abbrev pub divider : PlantInfo
  divider =
      record (pos_plant g) {
        next = vec g
            (Binary' Div (boxed g) (Number (pos 10)) (boxed g) (Place 0) somewhere ∷ []) refl;
      }

  -- a box out of the region leaves before its step may trap; a box inside whose step may trap
  -- leaves by the trap; the last box makes no step
  abbrev pub OutComesBeforeTrap : Type 0
  OutComesBeforeTrap =
      AnyTubeLeaves (line g) divider (segment (pos 0) (pos 5) ∷ []) (segment (pos 0) (pos 6)) 1
      (Out 0 (segment (pos 0) (pos 6)) (at_x (pos 6)))
      × AnyTubeLeaves (line g) divider (segment (pos 0) (pos 5) ∷ []) (segment (pos 0) (pos 2)) 1
      (Trap 0 somewhere)
      × AnyTubeInside (line g) divider (segment (pos 0) (pos 5) ∷ []) (segment (pos 0) (pos 2)) 0

  -- the running example beside a plant whose safe region is empty and that its nodes do not read
  abbrev pub with_unread : Tables
  with_unread = record (line g) {
    plants = pos_plant g ∷ pos_plant g ∷ [];
    modules =
        nav g ∷ record (nav g) {
          plant = 1;
          safe = record { width = 1; boxes = []; settled = false };
        } ∷ [];
  }

  -- no point is safe for all plants, and yet there is something that the safe node may meet
  abbrev pub UnreadPlantsAreNoPremise : Type 0
  UnreadPlantsAreNoPremise =
      ((points : List (List ℤ)) → AllSafe with_unread points → ⊥)
      × MayMeet with_unread (slow g) (pos 0 ∷ []) (at_x (pos 0) ∷ []) []
