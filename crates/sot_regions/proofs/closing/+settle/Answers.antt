use Rattle.std.proofs.Common.{arith}
use Rattle.sot_invariant_atoms.proofs.Extents.{low_less, high_less}
use Rattle.sot_regions.proofs.closing.+settle.Goals as goal

pub settle-requires : goal.settle-requires
settle-requires t c = (
  let l = low_less c.args.part.now c.in-Some.halves.low c.in-Some.halves.high c.in-Some.ensures in omega (arith, c.decreases),
  (c.requires.search, c.requires.points),
)

pub settle-requires-2 : goal.settle-requires-2
settle-requires-2 t c = (
  let l = high_less c.args.part.now c.in-Some.halves.low c.in-Some.halves.high c.in-Some.ensures in omega (arith, c.decreases),
  (c.requires.search, c.settle.ensures.points),
)
