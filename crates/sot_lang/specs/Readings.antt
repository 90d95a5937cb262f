-- What a node reads.
use Rattle.std.specs.Prelude.{ℤ, pos, List, [], slice_index_or, map}
use Rattle.sot_lang.specs.declared.tables.Slot.{Slot}
use Rattle.sot_lang.specs.declared.tables.Slot.TheVariants.{Scalar, State}
use Rattle.sot_lang.specs.declared.tables.NodeInfo.{NodeInfo}

-- the number in a slot, of these scalars and these points of the plants
abbrev pub number_at : List ℤ → List (List ℤ) → Slot → ℤ
number_at scalars points (Scalar k) = slice_index_or scalars k (pos 0)
number_at scalars points (State k v) = slice_index_or (slice_index_or points k []) v (pos 0)

-- what a node reads: the numbers in its slots, in order
abbrev pub reading : NodeInfo → List ℤ → List (List ℤ) → List ℤ
reading node scalars points = map (number_at scalars points) node.reads.items
