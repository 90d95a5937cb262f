use Rattle.std.proofs.Common.{◌<◌, length, arith, ap, sym, ◌∙◌, subst, length-take-le}
use Rattle.std.proofs.Math.ListN.{set, length-set}
use Rattle.std.proofs.Math.Seq.{take-set-lt}
use Rattle.sot_box.specs.Sides.{AreOrdered}
use Rattle.sot_box.proofs.Ordered.{ordered-set}
use Rattle.sot_iv.proofs.ranges.Ranges.put.Goals as goal

pub invariant_of-self : goal.invariant_of-self
invariant_of-self c =
    let inv = c.self.invariant in
    let n = c.self.inside.count in
    let xs = c.self.inside.sides in
    let size = length-take-le n xs (omega (arith, inv.0, inv.1)) in
    let lt : c.args.i < n = omega (arith, size, ap length c.self.view_is, c.requires.inside) in (
      inv.0,
      length-set _ _ _ ∙ inv.1,
      subst AreOrdered (sym (take-set-lt n xs c.args.i c.args.side lt)) (ordered-set _ c.args.i c.args.side inv.2 c.requires.ordered),
    )

pub returns : goal.returns
returns c =
    let inv = c.self.invariant in
    let n = c.self.inside.count in
    let xs = c.self.inside.sides in
    let size = length-take-le n xs (omega (arith, inv.0, inv.1)) in
    let lt : c.args.i < n = omega (arith, size, ap length c.self.view_is, c.requires.inside) in
    take-set-lt n xs c.args.i c.args.side lt ∙ ap (λ l. set l c.args.i c.args.side) c.self.view_is
