use Rattle.std.proofs.Common.{length, ap, subst}
use Rattle.sot_atoms.specs.Grids.{MeetsAxis}
use Rattle.sot_atoms.proofs.Boxes.{block_fits}
use Rattle.sot_atoms.proofs.Axes.{meets_block}
use Rattle.sot_atoms.proofs.grid.Grid.block.Goals as goal

pub returns-clause-places : goal.returns-clause-places
returns-clause-places c =
    let axes = c.args.self.now.axes in
    let box = c.args.b.now in
    meets_block axes box c.in_ok-first.first c.in_ok-second.second c.in_ok-third.third c.in_ok-fourth.fourth c.of.result c.of.ensures
    (subst (λ o. MeetsAxis axes box 0 o) c.in_ok-first.was c.stretch.ensures)
    (subst (λ o. MeetsAxis axes box 1 o) c.in_ok-second.was c.stretch-2.ensures)
    (subst (λ o. MeetsAxis axes box 2 o) c.in_ok-third.was c.stretch-3.ensures)
    (subst (λ o. MeetsAxis axes box 3 o) c.in_ok-fourth.was c.stretch-4.ensures)

pub returns-clause-fits : goal.returns-clause-fits
returns-clause-fits c =
    block_fits c.args.self.now c.axes-axes.ensures.cut c.args.b.now c.of.result c.requires (ap length c.of.ensures) c.len-width.ensures.ordered
    (returns-clause-places c)
