use Rattle.std.proofs.Common.{arith}
use Rattle.sot_invariant_atoms.proofs.Keeping.{taken_keeps, part_less, part_fits}
use Rattle.sot_invariant_atoms.proofs.Closing.{taken_closed}
use Rattle.sot_invariant_atoms.proofs.sweeps.+shrink_block.Goals as goal

pub returns-in_default-clause-keeps : goal.returns-in_default-clause-keeps
returns-in_default-clause-keeps t c =
    taken_keeps c.args.ask.now.program c.args.ask.now.jitter c.args.ask.now.info c.args.grid.now c.args.set.now c.take.new.self c.args.block.now
    c.area-area.result c.held_tube-found.result c.area-area.ensures.cut c.requires.fits c.area-area.ensures.width c.area-area.ensures.numbers
    c.held_tube-found.ensures.leaves c.held_tube-found.ensures.apart (λ e. let y = c.says_inside.ensures.no e in let n = c.if-says_inside.false in cc)
    c.in_default.ensures c.take.ensures.size c.take.ensures.taken

pub shrink_block-first-requires : goal.shrink_block-first-requires
shrink_block-first-requires t c = (
  (let l = part_less c.args.block.now c.in-Some.halves.low c.in-Some.halves.high c.in_order-parts.result.low c.in-Some.ensures c.in_order-parts.ensures.low in
      omega (arith, c.decreases)),
  (
    c.requires.grid,
    part_fits c.args.grid.now.axes c.args.block.now c.in-Some.halves.low c.in-Some.halves.high c.in_order-parts.result.low c.requires.fits c.in-Some.ensures
        c.in_order-parts.ensures.low,
  ),
)

pub shrink_block-second-requires : goal.shrink_block-second-requires
shrink_block-second-requires t c = (
  (let l = part_less c.args.block.now c.in-Some.halves.low c.in-Some.halves.high c.in_order-parts.result.high c.in-Some.ensures c.in_order-parts.ensures.high in
      omega (arith, c.decreases)),
  (
    c.requires.grid,
    part_fits c.args.grid.now.axes c.args.block.now c.in-Some.halves.low c.in-Some.halves.high c.in_order-parts.result.high c.requires.fits c.in-Some.ensures
        c.in_order-parts.ensures.high,
  ),
)

pub returns-in_default-clause-closed : goal.returns-in_default-clause-closed
returns-in_default-clause-closed t c =
    taken_closed c.args.ask.now.program c.args.ask.now.jitter c.args.ask.now.info c.args.grid.now c.args.set.now c.take.new.self c.args.block.now
    c.area-area.result c.held_tube-found.result c.area-area.ensures.cut c.requires.fits c.area-area.ensures.width c.area-area.ensures.numbers
    c.held_tube-found.ensures.leaves c.held_tube-found.ensures.apart (λ e. let y = c.says_inside.ensures.no e in let n = c.if-says_inside.false in cc)
    c.in_default.ensures c.take.ensures.taken
