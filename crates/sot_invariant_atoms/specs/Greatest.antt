-- Sets of atoms as points, and what a shrinking set keeps.
use Rattle.std.specs.Prelude.{◌≡◌, ℕ, ℤ, List, length, slice_index}
use Rattle.sot_lang.specs.declared.tables.ModuleInfo.{ModuleInfo}
use Rattle.sot_lang.specs.Tables.{Tables}
use Rattle.sot_box.specs.Sides.{Side}
use Rattle.sot_box.specs.Regions.{IsInRegion, IsHull}
use Rattle.sot_atoms.specs.declared.block.Stretch.{Stretch}
use Rattle.sot_atoms.specs.Blocks.{IsInBlock, atom_count}
use Rattle.sot_atoms.specs.Grids.{Cut, HoldsPoint, IsFinest, CutsHull}
use Rattle.sot_atoms.specs.Sets.{IsAtom, IsMember}
use Rattle.sot_law_invariant_regions.specs.Following.{IsHeldRegion, HasNoHeldRegion}

-- a point is in some atom of a set of a grid's atoms
pub record IsAmong (grid : Cut) (set : List ℕ) (s : List ℤ) : Type 0 where
  pub size : length set ≡ atom_count grid.axes
  pub width : length s ≡ grid.width
  pub at : List ℕ
  pub holds : HoldsPoint grid.axes at s
  pub member : IsMember grid.axes set at

-- each point of a region is in a set
abbrev pub HoldsRegion : Cut → List ℕ → List (List Side) → Type 0
HoldsRegion grid set region = (s : List ℤ) → IsInRegion region s → IsAmong grid set s

-- where each atom is one point, each atom that holds a point of a region is in a set
abbrev pub HasPointsOf : Cut → List ℕ → List (List Side) → Type 0
HasPointsOf grid set region =
    IsFinest grid → (s : List ℤ) (at : List ℕ) → IsInRegion region s → length s ≡ grid.width
    → HoldsPoint grid.axes at s → IsMember grid.axes set at

-- where each atom is one point, each atom of a block that holds a point of a region is in a set
abbrev pub HasPointsIn : Cut → List ℕ → List (List Side) → List Stretch → Type 0
HasPointsIn grid set region block =
    IsFinest grid → (s : List ℤ) (at : List ℕ) → IsInRegion region s → length s ≡ grid.width
    → HoldsPoint grid.axes at s → IsInBlock block at → IsMember grid.axes set at

-- each atom of a set is in another
abbrev pub HasMembersOf : Cut → List ℕ → List ℕ → Type 0
HasMembersOf grid old new =
    (at : List ℕ) → IsAtom grid.axes at → IsMember grid.axes old at → IsMember grid.axes new at

-- a grid of the safe region's hull, of which each atom is one point
pub record IsFinestOf (a : ModuleInfo) (grid : Cut) : Type 0 where
  pub hull : List Side
  pub is : IsHull a.safe.boxes hull
  pub cuts : CutsHull grid hull
  pub width : length hull ≡ grid.width
  pub finest : IsFinest grid

-- where nothing is left on a grid of which each atom is one point there is no held region
abbrev pub TellsNone : Tables → ℕ → ModuleInfo → Cut → List ℕ → Type 0
TellsNone p jitter a grid set =
    IsFinestOf a grid → ((k : ℕ) → slice_index set k ≡ 1 → ⊥) → HasNoHeldRegion p jitter a

-- where each atom is one point: of the held regions, those that lie in the first set lie in the
-- second one too. So a second set that is empty says that there is none
abbrev pub KeepsHeldRegions : Tables → ℕ → ModuleInfo → Cut → List ℕ → List ℕ → Type 0
KeepsHeldRegions p jitter a grid old new =
    IsFinest grid → (region : List (List Side)) → IsHeldRegion p jitter a region
    → HoldsRegion grid old region → HoldsRegion grid new region
