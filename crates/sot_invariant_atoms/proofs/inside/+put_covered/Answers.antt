use Rattle.std.proofs.Common.{◌∙◌, arith}
use Rattle.sot_invariant_atoms.proofs.Extents.{low_less, high_less}
use Rattle.sot_invariant_atoms.proofs.Keeping.{low_fits, high_fits}
use Rattle.sot_invariant_atoms.proofs.Covering.{apart_holds, one_holds, halves_hold}
use Rattle.sot_invariant_atoms.proofs.Closing.{apart_covered, one_covered, halves_covered}
use Rattle.sot_invariant_atoms.proofs.inside.+put_covered.Goals as goal

pub returns-then-not-meets-clause-holds : goal.returns-then-not-meets-clause-holds
returns-then-not-meets-clause-holds t c =
    apart_holds c.args.grid.now c.area-area.ensures.cut c.args.region.now.boxes c.args.set.now c.args.block.now c.requires.fits c.area-area.result
    c.area-area.ensures.width (c.area-area.ensures.numbers c.requires.fits)
    (λ s inside w. let m = c.meets.ensures s inside w in let n = c.if-not-meets.true in cc)

pub put_covered-requires : goal.put_covered-requires
put_covered-requires t c = (
  (let l = low_less c.args.block.now c.in-Some.halves.low c.in-Some.halves.high c.in-Some.ensures in omega (arith, c.decreases)),
  (
    c.requires.width,
    (low_fits c.args.grid.now.axes c.args.block.now c.in-Some.halves.low c.in-Some.halves.high c.requires.fits c.in-Some.ensures, c.requires.size),
  ),
)

pub put_covered-requires-in-Some : goal.put_covered-requires-in-Some
put_covered-requires-in-Some t c = (
  (let l = high_less c.args.block.now c.in-Some.halves.low c.in-Some.halves.high c.in-Some.ensures in omega (arith, c.decreases)),
  (
    c.requires.width,
    (
      high_fits c.args.grid.now.axes c.args.block.now c.in-Some.halves.low c.in-Some.halves.high c.requires.fits c.in-Some.ensures,
      c.put_covered.ensures.size ∙ c.requires.size,
    ),
  ),
)

pub returns-in-Some-clause-holds : goal.returns-in-Some-clause-holds
returns-in-Some-clause-holds t c =
    halves_hold c.args.grid.now c.area-area.ensures.cut c.args.region.now.boxes c.put_covered.new.set c.put_covered-in-Some.new.set c.args.block.now
    c.in-Some.halves.low c.in-Some.halves.high c.in-Some.ensures c.put_covered.ensures.holds c.put_covered-in-Some.ensures.more
    c.put_covered-in-Some.ensures.holds

pub returns-in_default-clause-holds : goal.returns-in_default-clause-holds
returns-in_default-clause-holds t c =
    one_holds c.args.grid.now c.area-area.ensures.cut c.args.region.now.boxes c.args.set.now c.args.block.now c.requires.fits c.area-area.result
    c.area-area.ensures.width (c.area-area.ensures.numbers c.requires.fits) c.in_default.ensures
    (λ covered. let y = c.covers.ensures.1 covered in let n = c.if-covers.false in cc)

pub returns-then-not-meets-clause-covered : goal.returns-then-not-meets-clause-covered
returns-then-not-meets-clause-covered t c =
    apart_covered c.args.grid.now c.area-area.ensures.cut c.args.region.now.boxes c.args.set.now c.args.block.now c.requires.fits c.area-area.result
    c.area-area.ensures.width (c.area-area.ensures.numbers c.requires.fits)
    (λ s inside w. let m = c.meets.ensures s inside w in let n = c.if-not-meets.true in cc)

pub returns-in-Some-clause-covered : goal.returns-in-Some-clause-covered
returns-in-Some-clause-covered t c =
    halves_covered c.args.grid.now c.area-area.ensures.cut c.args.region.now.boxes c.put_covered.new.set c.put_covered-in-Some.new.set c.args.block.now
    c.in-Some.halves.low c.in-Some.halves.high c.in-Some.ensures c.put_covered.ensures.covered c.put_covered-in-Some.ensures.more
    c.put_covered-in-Some.ensures.covered

pub returns-in_default-clause-covered : goal.returns-in_default-clause-covered
returns-in_default-clause-covered t c =
    one_covered c.args.grid.now c.area-area.ensures.cut c.args.region.now.boxes c.args.set.now c.args.block.now c.requires.fits c.area-area.result
    c.area-area.ensures.width (c.area-area.ensures.numbers c.requires.fits) c.in_default.ensures
    (λ covered. let y = c.covers.ensures.1 covered in let n = c.if-covers.false in cc)
