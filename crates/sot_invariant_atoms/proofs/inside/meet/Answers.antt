use Rattle.sot_box.specs.Sweep.{coordinate}
use Rattle.sot_atoms.proofs.Boxes.{within_coordinate}
use Rattle.sot_invariant_atoms.proofs.inside.meet.Goals as goal

pub returns-then-are_apart : goal.returns-then-are_apart
returns-then-are_apart c s wa wb =
    let i = c.loop-i.i in
    absurd (c.are_apart.ensures c.if-are_apart.true (coordinate s i) (within_coordinate c.args.a.now s i c.side-one.result wa c.side-one.ensures)
    (within_coordinate c.args.b.now s i c.side-other.result wb c.side-other.ensures))
