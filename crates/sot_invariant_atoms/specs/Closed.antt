-- Closed sets of atoms: sets that are robustly invariant under the safe node, box by box.
use Rattle.std.specs.Prelude.{◌≡◌, ℕ, ◌+◌, ◌≤◌, ℤ, List, length}
use Rattle.sot_lists.specs.Places.{At}
use Rattle.sot_lang.specs.declared.tables.ModuleInfo.{ModuleInfo}
use Rattle.sot_lang.specs.Tables.{Tables}
use Rattle.sot_box.specs.Sides.{Side, AreOrdered}
use Rattle.sot_box.specs.Boxes.{IsWithin}
use Rattle.sot_box.specs.Regions.{Covers}
use Rattle.sot_atoms.specs.declared.axis.Axis.{Axis}
use Rattle.sot_atoms.specs.declared.block.Stretch.{Stretch}
use Rattle.sot_atoms.specs.Places.{start_of, end_of}
use Rattle.sot_atoms.specs.Blocks.{IsInBlock, atom_count}
use Rattle.sot_atoms.specs.Grids.{Cut, HoldsPoint}
use Rattle.sot_atoms.specs.Sets.{IsAtom, IsMember}
use Rattle.sot_law_invariant_regions.specs.Following.{HeldStays}
use Rattle.sot_invariant_atoms.specs.Greatest.{IsAmong, HasMembersOf}

-- side i of a box has the numbers of an atom's place on the axis of that side, from the first one to
-- the last
pub record IsAtomSide (grid : Cut) (at : List ℕ) (i : ℕ) (r : Side) : Type 0 where
  pub k : ℕ
  pub axis : Axis
  pub place : ℕ
  pub is_axis : At grid.axes k axis
  pub real : 4 ≤ k + grid.width
  pub side : axis.side ≡ i
  pub is_place : At at k place
  pub lo : r.lo ≡ start_of axis place
  pub hi : r.hi ≡ end_of axis place

-- a box is that of an atom: so is each of its sides, and the atom holds each of its points
pub record IsAtomBox (grid : Cut) (at : List ℕ) (box : List Side) : Type 0 where
  pub width : length box ≡ grid.width
  pub ordered : AreOrdered box
  pub sides : (i : ℕ) (r : Side) → At box i r → IsAtomSide grid at i r
  pub points : (s : List ℤ) → IsWithin box s → HoldsPoint grid.axes at s

-- a set of atoms is closed: from the box of each of its atoms the held tube, whatever the
-- disturbances are, stays in its atoms for the safe node's period and the jitter
abbrev pub IsClosedSet : Tables → ℕ → ModuleInfo → Cut → List ℕ → Type 0
IsClosedSet p jitter a grid set =
    (at : List ℕ) → IsAtom grid.axes at → IsMember grid.axes set at
    → (box : List Side) × IsAtomBox grid at box × HeldStays (IsAmong grid set) p jitter a box

-- each closed set that lies in the first set lies in the second one
abbrev pub KeepsClosedSets : Tables → ℕ → ModuleInfo → Cut → List ℕ → List ℕ → Type 0
KeepsClosedSets p jitter a grid old new =
    length old ≡ atom_count grid.axes → (closed : List ℕ) → IsClosedSet p jitter a grid closed
    → HasMembersOf grid closed old → HasMembersOf grid closed new

-- the boxes of a set's atoms lie in a region
abbrev pub LieIn : Cut → List ℕ → List (List Side) → Type 0
LieIn grid set region =
    (at : List ℕ) (box : List Side) → IsAtom grid.axes at → IsMember grid.axes set at
    → IsAtomBox grid at box → Covers region box

-- each closed set whose boxes lie in the module's safe region lies in this set
abbrev pub HasClosedSets : Tables → ℕ → ModuleInfo → Cut → List ℕ → Type 0
HasClosedSets p jitter a grid set =
    (closed : List ℕ) → IsClosedSet p jitter a grid closed → LieIn grid closed a.safe.boxes
    → HasMembersOf grid closed set

-- no closed set with an atom lies in the module's safe region
abbrev pub HasNoClosedSet : Tables → ℕ → ModuleInfo → Cut → Type 0
HasNoClosedSet p jitter a grid =
    (closed at : List ℕ) → IsClosedSet p jitter a grid closed → LieIn grid closed a.safe.boxes
    → IsAtom grid.axes at → IsMember grid.axes closed at → ⊥

-- each atom whose box a region covers is in a set
abbrev pub HasCoveredOf : Cut → List ℕ → List (List Side) → Type 0
HasCoveredOf grid set region =
    (at : List ℕ) (box : List Side) → IsAtomBox grid at box → Covers region box
    → IsMember grid.axes set at

-- .. and of the atoms of a block each such one
abbrev pub HasCoveredIn : Cut → List ℕ → List (List Side) → List Stretch → Type 0
HasCoveredIn grid set region block =
    (at : List ℕ) (box : List Side) → IsAtomBox grid at box → Covers region box
    → IsInBlock block at → IsMember grid.axes set at
