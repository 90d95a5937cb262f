use Rattle.std.proofs.Common.{◌<◌, length, w64, arith, ap}
use Rattle.std.proofs.lemmas.Int.{to_z-of_z}
use Rattle.sot_box.specs.PointSlots.{width-taken}
use Rattle.sot_box.proofs.Slots.{take-set_in}
use Rattle.sot_box.proofs.point.Point.set.Goals as goal

pub returns : goal.returns
returns c =
    let inside : c.args.i < c.self.inside.width =
    omega (arith, width-taken c.self.inside.width c.self.inside.at c.self.told c.self.invariant.1, ap length c.self.view_is, c.requires) in
    rw (to_z-of_z w64 c.args.v c.ranges.v, ← c.self.view_is) (take-set_in c.self.inside.width c.args.i c.self.inside.at c.args.v inside)
