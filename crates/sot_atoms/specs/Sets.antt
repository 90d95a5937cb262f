-- Sets of atoms: a number for each atom of a grid, in the order in which they are counted, which is
-- 1 for those in the set and 0 for the others.
use Rattle.std.specs.Prelude.{◌≤◌, Option, MatchOption, ◌≡◌, ℕ, ◌<◌, List, [], ◌∷◌, length}
use Rattle.std.specs.Prelude.{slice_index, ◌↔◌}
use Rattle.sot_atoms.specs.declared.axis.Axis.{Axis}
use Rattle.sot_atoms.specs.declared.block.Stretch.{Stretch}
use Rattle.sot_atoms.specs.Blocks.{IsInBlock, FitsAxes, atom_count, number_from}

-- an atom of some axes
abbrev pub IsAtom : List Axis → List ℕ → Type 0
IsAtom [] [] = Unit {0}
IsAtom (x ∷ xs) (a ∷ rest) = (a < x.size) × IsAtom xs rest
IsAtom [] (a ∷ rest) = ⊥
IsAtom (x ∷ xs) [] = ⊥

-- an atom is in a set
abbrev pub IsMember : List Axis → List ℕ → List ℕ → Type 0
IsMember axes set at = slice_index set (number_from 0 axes at) ≡ 1

-- a set is one of the atoms of these axes, and a block is one of them
pub record SetFits (axes : List Axis) (set : List ℕ) (block : List Stretch) : Type 0 where
  pub size : length set ≡ atom_count axes
  pub in_axes : FitsAxes axes block

-- each atom of a block is in a set; none is
abbrev pub AllMembers : List Axis → List ℕ → List Stretch → Type 0
AllMembers axes set block = (at : List ℕ) → IsInBlock block at → IsMember axes set at

abbrev pub NoMembers : List Axis → List ℕ → List Stretch → Type 0
NoMembers axes set block = (at : List ℕ) → IsInBlock block at → IsMember axes set at → ⊥

-- of the atoms that are not in a block the same are in a set as before
abbrev pub StayOutside : List Axis → List ℕ → List ℕ → List Stretch → Type 0
StayOutside axes old new block =
    (at : List ℕ) → IsAtom axes at → (IsInBlock block at → ⊥)
    → IsMember axes new at ↔ IsMember axes old at

-- the atoms of a block are put into a set, and no other
pub record IsPut (axes : List Axis) (old new : List ℕ) (block : List Stretch) : Type 0 where
  pub inside : AllMembers axes new block
  pub outside : StayOutside axes old new block

-- the atoms of a block are taken out of a set, and no other
pub record IsTaken (axes : List Axis) (old new : List ℕ) (block : List Stretch) : Type 0 where
  pub inside : NoMembers axes new block
  pub outside : StayOutside axes old new block

-- n is the number of the first atom in a set, of those from a number on
pub record IsFirstMember (set : List ℕ) (from n : ℕ) : Type 0 where
  pub there : n < length set
  pub behind : from ≤ n
  pub member : slice_index set n ≡ 1
  pub first : (k : ℕ) → from ≤ k → k < n → slice_index set k ≡ 1 → ⊥

-- the first one, or none where there is none
abbrev pub IsNextMember : List ℕ → ℕ → Option ℕ → Type 0
IsNextMember set from result =
    MatchOption result ((k : ℕ) → from ≤ k → slice_index set k ≡ 1 → ⊥) (IsFirstMember set from)
