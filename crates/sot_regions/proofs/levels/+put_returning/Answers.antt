use Rattle.std.proofs.Common.{arith}
use Rattle.sot_invariant_atoms.proofs.Extents.{low_less, high_less}
use Rattle.sot_regions.proofs.levels.+put_returning.Goals as goal

pub put_returning-requires : goal.put_returning-requires
put_returning-requires t c = (
  let l = low_less c.args.block.now c.in-Some.halves.low c.in-Some.halves.high c.in-Some.ensures in omega (arith, c.decreases),
  c.requires,
)

pub put_returning-requires-in-Some : goal.put_returning-requires-in-Some
put_returning-requires-in-Some t c = (
  let l = high_less c.args.block.now c.in-Some.halves.low c.in-Some.halves.high c.in-Some.ensures in omega (arith, c.decreases),
  c.requires,
)
