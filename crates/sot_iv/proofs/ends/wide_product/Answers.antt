use Rattle.std.proofs.Common.{◌∙◌, ◌*ℤ◌}
use Rattle.sot_iv.proofs.Wide.{of_two, corners_same}
use Rattle.sot_iv.proofs.ends.wide_product.Goals as goal

pub returns : goal.returns
returns c =
    let p = of_two (λ x y. x *ℤ y) c.times-p.result c.args.a c.args.c c.ranges.a c.ranges.c c.times-p.type_inv c.times-p.ensures in
    let q = of_two (λ x y. x *ℤ y) c.times-q.result c.args.a c.args.d c.ranges.a c.ranges.d c.times-q.type_inv c.times-q.ensures in
    let r = of_two (λ x y. x *ℤ y) c.times-r.result c.args.b c.args.c c.ranges.b c.ranges.c c.times-r.type_inv c.times-r.ensures in
    let s = of_two (λ x y. x *ℤ y) c.times-s.result c.args.b c.args.d c.ranges.b c.ranges.d c.times-s.type_inv c.times-s.ensures in
    c.span_of.ensures ∙ corners_same c.args.at _ _ _ _ _ _ _ _ p q r s
