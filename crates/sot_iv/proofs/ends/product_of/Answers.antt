use Rattle.std.proofs.Common.{◌∙◌, ◌*ℤ◌}
use Rattle.sot_iv.proofs.Wide.{of_checked, corners_same}
use Rattle.sot_iv.proofs.ends.product_of.Goals as goal

pub returns : goal.returns
returns c =
    let p = of_checked (λ x y. x *ℤ y) c.in-Some.p c.args.a c.args.c c.ranges.a c.ranges.c c.in-Some.ensures in
    let q = of_checked (λ x y. x *ℤ y) c.in-Some-checked_mul.q c.args.a c.args.d c.ranges.a c.ranges.d c.in-Some-checked_mul.ensures in
    let r = of_checked (λ x y. x *ℤ y) c.in-Some-checked_mul-2.r c.args.b c.args.c c.ranges.b c.ranges.c c.in-Some-checked_mul-2.ensures in
    let s = of_checked (λ x y. x *ℤ y) c.in-Some-checked_mul-3.s c.args.b c.args.d c.ranges.b c.ranges.d c.in-Some-checked_mul-3.ensures in
    c.corners.ensures ∙ corners_same c.args.at _ _ _ _ _ _ _ _ p q r s
