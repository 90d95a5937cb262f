use Rattle.sot_invariant_atoms.proofs.Standing.{off_apart, none_apart}
use Rattle.sot_invariant_atoms.proofs.tube.is_apart.Goals as goal

pub returns-in-None : goal.returns-in-None
returns-in-None c t s w m =
    off_apart c.args.grid.now c.axes-axes.ensures.cut c.args.set.now c.args.area.now c.requires c.in-None.ensures.places s w m

pub returns-in-Some : goal.returns-in-Some
returns-in-Some c t s w m =
    none_apart c.args.grid.now c.axes-axes.ensures.cut c.args.set.now c.args.area.now c.requires c.in-Some.block c.has_none.result c.in-Some.ensures.places
    c.in-Some.ensures.fits c.has_none.ensures t s w m
