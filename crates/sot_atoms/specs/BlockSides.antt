-- Between the crate's own functions: a block, kept in four slots.
use Rattle.std.specs.Prelude.{◌≡◌, List, length, refl}
use Rattle.sot_atoms.specs.declared.block.Stretch.{Stretch}
use Rattle.sot_atoms.specs.declared.block.Block.TheInside as block

abbrev pub sides_of : block.Inside → List Stretch
sides_of b = b.sides

abbrev pub block_of : List Stretch → block.Inside
block_of xs = record { sides = xs }

pub block_of-sides : (b : block.Inside) → length b.sides ≡ 4 → block_of (sides_of b) ≡ b
block_of-sides b four = refl
