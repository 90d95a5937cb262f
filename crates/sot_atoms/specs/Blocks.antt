-- Blocks: a stretch of places on each axis. An atom is named by its place on each axis.
use Rattle.std.specs.Prelude.{◌≡◌, ℕ, ◌+◌, ◌-◌, ◌*◌, ◌/◌, ◌<◌, ◌≤◌, List, [], ◌∷◌, slice_set}
use Rattle.sot_lists.specs.Places.{At}
use Rattle.sot_atoms.specs.declared.axis.Axis.{Axis}
use Rattle.sot_atoms.specs.declared.block.Stretch.{Stretch}

-- an atom is in a block where its place on each axis is in the stretch there
abbrev pub IsInBlock : List Stretch → List ℕ → Type 0
IsInBlock [] [] = Unit {0}
IsInBlock (r ∷ rs) (a ∷ rest) = (r.from ≤ a) × (a ≤ r.to) × IsInBlock rs rest
IsInBlock [] (a ∷ rest) = ⊥
IsInBlock (r ∷ rs) [] = ⊥

-- a block has atoms, all of which the axes have
abbrev pub FitsAxes : List Axis → List Stretch → Type 0
FitsAxes [] [] = Unit {0}
FitsAxes (x ∷ xs) (r ∷ rs) = (r.from ≤ r.to) × (r.to < x.size) × FitsAxes xs rs
FitsAxes [] (r ∷ rs) = ⊥
FitsAxes (x ∷ xs) [] = ⊥

-- how many atoms some axes have
abbrev pub atom_count : List Axis → ℕ
atom_count [] = 1
atom_count (x ∷ xs) = x.size * atom_count xs

-- the number of an atom: how many come before it in lexicographic order, where so many come before
-- its first axes
abbrev pub number_from : ℕ → List Axis → List ℕ → ℕ
number_from n (x ∷ xs) (a ∷ rest) = number_from (n * x.size + a) xs rest
number_from n [] rest = n
number_from n (x ∷ xs) [] = n

-- no stretch has more than one place
abbrev pub IsOneAtom : List Stretch → Type 0
IsOneAtom block = (k : ℕ) (r : Stretch) → At block k r → r.to ≤ r.from

-- this is the stretch of an axis, no stretch is longer, and each one before is shorter
abbrev pub IsLongest : List Stretch → ℕ → Stretch → Type 0
IsLongest block axis s =
    At block axis s × ((k : ℕ) (r : Stretch) → At block k r
    → (r.to - r.from ≤ s.to - s.from) × (k < axis → r.to - r.from < s.to - s.from))

-- two blocks are the halves of a block, which is cut on the longest stretch, of equal ones the
-- first, behind its middle
pub record AreHalves (block low high : List Stretch) : Type 0 where
  pub axis : ℕ
  pub side : Stretch
  pub longest : IsLongest block axis side
  pub some_places : side.from < side.to
  pub low_is : low ≡ slice_set block axis
      (record { from = side.from; to = side.from + (side.to - side.from) / 2 })
  pub high_is : high ≡ slice_set block axis
      (record { from = side.from + (side.to - side.from) / 2 + 1; to = side.to })
