-- A walk along a tube: where it stands, and what a step of it gives. The commands and the states of
-- seen plants stay in their intervals all along.
use Rattle.std.specs.Prelude.{◌≡◌, ℕ, List, Ok, Err, length}
use Rattle.sot_lists.specs.Places.{At}
use Rattle.sot_box.specs.Sides.{Side, AreOrdered}
use Rattle.sot_lang.specs.declared.tables.PlantInfo.{PlantInfo}
use Rattle.sot_lang.specs.Tables.{Tables}
use Rattle.sot_iv.specs.declared.may_trap.MayTrap.{MayTrap}
use Rattle.sot_iv.specs.Monotony.{AreNarrower}
use Rattle.sot_iv.specs.PlantTicks.{MayTickBox, IsBoxAfterTick, ArePlantRanges}
use Rattle.sot_atoms.specs.Grids.{Cut}
use Rattle.sot_law_invariant_regions.specs.Following.{StaysAmong, HeldStays}
use Rattle.sot_law_invariant_regions.specs.Walks.{SomeTubeStays}
use Rattle.sot_invariant_atoms.specs.Asking.{Asked}
use Rattle.sot_invariant_atoms.specs.Greatest.{IsAmong}

-- the plant of a program, the box where it is, where each name of its expressions may be, and how
-- many ticks the whole walk has
pub record Walked : Type 0 where
  pub program : Tables
  pub plant : ℕ
  pub area : List Side
  pub names : List Side
  pub ticks : ℕ

-- the walk is that with these commands and these states of seen plants
pub record GoesBy (w : Walked) (held seen : List Side) : Type 0 where
  pub may : MayTickBox w.program w.plant w.area held seen
  pub are : ArePlantRanges w.program w.plant w.area held seen w.names

-- it has commands and states of seen plants
abbrev pub Goes : Walked → Type 0
Goes w = (held : List Side) × (seen : List Side) × GoesBy w held seen

-- the next tick may trap
abbrev pub MayTrapNext : Walked → Type 0
MayTrapNext w =
    (t : MayTrap) × ((held seen : List Side) → GoesBy w held seen
    → IsBoxAfterTick w.program w.plant w.area held seen (Err t))

-- the next tick leads from one place of a walk to this box, where the walk is then
pub record GoesTo (old : Walked) (next : List Side) (new : Walked) : Type 0 where
  pub program : new.program ≡ old.program
  pub plant : new.plant ≡ old.plant
  pub ticks : new.ticks ≡ old.ticks
  pub area : new.area ≡ next
  pub width : length next ≡ length old.area
  pub told : (held seen : List Side) → GoesBy old held seen
      → IsBoxAfterTick old.program old.plant old.area held seen (Ok next)
  pub goes : (held seen : List Side) → GoesBy old held seen → GoesBy new held seen

-- no held tube of a box stays in any set of atoms
abbrev pub HasNoHeldTube : Asked → List Side → Type 0
HasNoHeldTube q area =
    (grid : Cut) (set : List ℕ)
    → HeldStays (IsAmong grid set) q.program q.jitter q.info area → ⊥

-- the walk begins with a box, and goes along its held tube: where that stays in a set, or where the
-- held tube of a narrower box does, the walk does so too, or one from a narrower box
pub record GoesHeld (q : Asked) (first : List Side) (w : Walked) : Type 0 where
  pub starts : w.area ≡ first
  pub held : List Side
  pub seen : List Side
  pub goes : GoesBy w held seen
  pub ordered : AreOrdered seen
  pub info : PlantInfo
  pub is : At w.program.plants w.plant info
  pub whole : (grid : Cut) (set : List ℕ)
      → HeldStays (IsAmong grid set) q.program q.jitter q.info first
      → StaysAmong (IsAmong grid set) info held seen w.area w.ticks
  pub narrower : (grid : Cut) (set : List ℕ) (box : List Side) → AreNarrower box first
      → HeldStays (IsAmong grid set) q.program q.jitter q.info box
      → SomeTubeStays (IsAmong grid set) info held seen w.area w.ticks

-- none of the tubes along which the walk goes stays in the set
abbrev pub LeavesSet : Walked → Cut → List ℕ → Type 0
LeavesSet w grid set =
    (held seen : List Side) (info : PlantInfo) → GoesBy w held seen
    → At w.program.plants w.plant info
    → StaysAmong (IsAmong grid set) info held seen w.area w.ticks → ⊥

-- .. and none from a narrower box either
abbrev pub IsApartFrom : Walked → Cut → List ℕ → Type 0
IsApartFrom w grid set =
    (held seen : List Side) (info : PlantInfo) → GoesBy w held seen → AreOrdered seen
    → At w.program.plants w.plant info
    → SomeTubeStays (IsAmong grid set) info held seen w.area w.ticks → ⊥
