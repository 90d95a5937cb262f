use Rattle.std.proofs.Common.{◌<◌, length, arith, ap, sym, ◌∙◌, subst}
use Rattle.std.proofs.Math.ListN.{set, length-set}
use Rattle.std.proofs.Math.Seq.{take-set-lt}
use Rattle.std.proofs.lemmas.List.{drop-set-lt}
use Rattle.sot_box.specs.Sides.{AreOrdered}
use Rattle.sot_box.specs.PointSlots.{width-taken}
use Rattle.sot_box.proofs.Ordered.{ordered-set}
use Rattle.sot_box.proofs.box_n.BoxN.put.Goals as goal

pub invariant_of-self : goal.invariant_of-self
invariant_of-self c =
    let inv = c.self.invariant in
    let lt : c.args.i < c.self.inside.width = omega (
      arith,
      width-taken c.self.inside.width c.self.inside.sides inv.2 inv.1,
      ap length c.self.view_is,
      c.requires.inside,
    ) in (
      inv.0,
      inv.1,
      length-set _ _ _ ∙ inv.2,
      drop-set-lt c.self.inside.width c.self.inside.sides c.args.i c.args.side lt ∙ inv.3,
      subst AreOrdered (sym (take-set-lt c.self.inside.width c.self.inside.sides c.args.i c.args.side lt))
          (ordered-set _ c.args.i c.args.side inv.4 c.requires.ordered),
    )

pub returns : goal.returns
returns c =
    let inv = c.self.invariant in
    let lt : c.args.i < c.self.inside.width = omega (
      arith,
      width-taken c.self.inside.width c.self.inside.sides inv.2 inv.1,
      ap length c.self.view_is,
      c.requires.inside,
    ) in
    take-set-lt c.self.inside.width c.self.inside.sides c.args.i c.args.side lt ∙ ap (λ xs. set xs c.args.i c.args.side) c.self.view_is
