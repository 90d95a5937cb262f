use Rattle.std.proofs.Common.{◌∙◌, ap₂}
use Rattle.sot_lang.specs.Values.{floor_div}
use Rattle.sot_iv.proofs.Wide.{word, corners_same}
use Rattle.sot_iv.proofs.ends.quotient_above.Goals as goal

pub returns : goal.returns
returns c =
    let p = word c.floor_above-p.result (record { sfits = c.floor_above-p.type_inv }) ∙ c.floor_above-p.ensures
    ∙ ap₂ floor_div (word c.args.a c.ranges.a) (word c.args.c c.ranges.c) in
    let q = word c.floor_above-q.result (record { sfits = c.floor_above-q.type_inv }) ∙ c.floor_above-q.ensures
    ∙ ap₂ floor_div (word c.args.a c.ranges.a) (word c.args.d c.ranges.d) in
    let r = word c.floor_above-r.result (record { sfits = c.floor_above-r.type_inv }) ∙ c.floor_above-r.ensures
    ∙ ap₂ floor_div (word c.args.b c.ranges.b) (word c.args.c c.ranges.c) in
    let s = word c.floor_above-s.result (record { sfits = c.floor_above-s.type_inv }) ∙ c.floor_above-s.ensures
    ∙ ap₂ floor_div (word c.args.b c.ranges.b) (word c.args.d c.ranges.d) in
    c.corners.ensures ∙ corners_same c.args.at _ _ _ _ _ _ _ _ p q r s
