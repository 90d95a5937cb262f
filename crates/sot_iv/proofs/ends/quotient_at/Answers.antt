use Rattle.std.proofs.Common.{◌∙◌}
use Rattle.sot_iv.proofs.Wide.{of_two, corners_same}
use Rattle.sot_lang.specs.Values.{floor_div}
use Rattle.sot_iv.proofs.ends.quotient_at.Goals as goal

pub returns : goal.returns
returns c =
    let p = of_two (floor_div) c.floor-p.result c.args.a c.args.c c.ranges.a c.ranges.c c.floor-p.type_inv c.floor-p.ensures in
    let q = of_two (floor_div) c.floor-q.result c.args.a c.args.d c.ranges.a c.ranges.d c.floor-q.type_inv c.floor-q.ensures in
    let r = of_two (floor_div) c.floor-r.result c.args.b c.args.c c.ranges.b c.ranges.c c.floor-r.type_inv c.floor-r.ensures in
    let s = of_two (floor_div) c.floor-s.result c.args.b c.args.d c.ranges.b c.ranges.d c.floor-s.type_inv c.floor-s.ensures in
    c.span_of.ensures ∙ corners_same c.args.at _ _ _ _ _ _ _ _ p q r s
