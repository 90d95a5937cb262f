-- Between the crate's own functions: the bytes of a block's atoms, in the order of their numbers.
use Rattle.std.specs.Prelude.{◌≡◌, ◌≢◌, ℕ, ◌+◌, ◌*◌, ◌≤◌, ◌<◌, List, slice_index, ◌⊎◌}
use Rattle.sot_atoms.specs.declared.axis.Axis.{Axis}
use Rattle.sot_atoms.specs.declared.block.Stretch.{Stretch}
use Rattle.sot_atoms.specs.Blocks.{IsInBlock, number_from}

-- no atom of the block has this byte, where so many atoms come before its axes
abbrev pub Lacks : ℕ → List ℕ → List Axis → List Stretch → ℕ → Type 0
Lacks byte bytes axes sides before =
    (at : List ℕ) → IsInBlock sides at → slice_index bytes (number_from before axes at) ≢ byte

-- at each place of a stretch on an axis of so many places no atom of the block has this byte
abbrev pub EachLacks : ℕ → List ℕ → ℕ → Stretch → List Axis → List Stretch → ℕ → Type 0
EachLacks byte bytes size side inner within before =
    (a : ℕ) → side.from ≤ a → a ≤ side.to → Lacks byte bytes inner within (before * size + a)

-- the atoms of the block have this byte now, and all others have what they had
pub record Fills (byte : ℕ) (old new : List ℕ) (axes : List Axis) (sides : List Stretch)
    (before : ℕ) : Type 0 where
  pub inside : (at : List ℕ) → IsInBlock sides at
      → slice_index new (number_from before axes at) ≡ byte
  pub outside : (k : ℕ) → ((at : List ℕ) → IsInBlock sides at
      → number_from before axes at ≢ k) → slice_index new k ≡ slice_index old k
  pub either : (k : ℕ) → (slice_index new k ≡ slice_index old k) ⊎ (slice_index new k ≡ byte)

-- at each place from `from` up to `end`, on an axis of so many places, the atoms of the block have
-- this byte now, and all others have what they had
pub record EachFills (byte : ℕ) (old new : List ℕ) (size from end : ℕ) (inner : List Axis)
    (within : List Stretch) (before : ℕ) : Type 0 where
  pub inside : (a : ℕ) (at : List ℕ) → from ≤ a → a < end → IsInBlock within at
      → slice_index new (number_from (before * size + a) inner at) ≡ byte
  pub outside : (k : ℕ) → ((a : ℕ) (at : List ℕ) → from ≤ a → a < end → IsInBlock within at
      → number_from (before * size + a) inner at ≢ k) → slice_index new k ≡ slice_index old k
  pub either : (k : ℕ) → (slice_index new k ≡ slice_index old k) ⊎ (slice_index new k ≡ byte)
