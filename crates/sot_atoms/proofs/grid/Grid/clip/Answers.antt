use Rattle.std.proofs.Common.{length, ap, subst}
use Rattle.sot_atoms.specs.Grids.{ClipsAxis}
use Rattle.sot_atoms.proofs.Boxes.{clip_fits}
use Rattle.sot_atoms.proofs.Axes.{clips_block}
use Rattle.sot_atoms.proofs.grid.Grid.clip.Goals as goal

pub returns-clause-places : goal.returns-clause-places
returns-clause-places c =
    let axes = c.args.self.now.axes in
    let box = c.args.b.now in
    clips_block axes box c.in_ok-first.first c.in_ok-second.second c.in_ok-third.third c.in_ok-fourth.fourth c.of.result c.of.ensures
    (subst (λ o. ClipsAxis axes box 0 o) c.in_ok-first.was c.clipped.ensures)
    (subst (λ o. ClipsAxis axes box 1 o) c.in_ok-second.was c.clipped-2.ensures)
    (subst (λ o. ClipsAxis axes box 2 o) c.in_ok-third.was c.clipped-3.ensures)
    (subst (λ o. ClipsAxis axes box 3 o) c.in_ok-fourth.was c.clipped-4.ensures)

pub returns-clause-fits : goal.returns-clause-fits
returns-clause-fits c =
    clip_fits c.args.self.now c.axes-axes.ensures.cut c.args.b.now c.of.result c.requires (ap length c.of.ensures) c.len-width.ensures.ordered
    (returns-clause-places c)
