use Rattle.sot_invariant_atoms.proofs.Standing.{leaves_not_among, all_among}
use Rattle.sot_invariant_atoms.proofs.tube.lies_among.Goals as goal

pub returns-in-None : goal.returns-in-None
returns-in-None c among =
    absurd (leaves_not_among c.args.grid.now c.axes-axes.ensures.cut c.args.set.now c.args.area.now c.requires c.len-width.ensures.ordered
    c.in-None.ensures.places among)

pub returns-in-Some : goal.returns-in-Some
returns-in-Some c among =
    all_among c.args.grid.now c.axes-axes.ensures.cut c.args.set.now c.args.area.now c.requires c.in-Some.block c.has_all.result c.len-width.ensures.ordered
    c.in-Some.ensures.places c.in-Some.ensures.fits c.has_all.ensures among
