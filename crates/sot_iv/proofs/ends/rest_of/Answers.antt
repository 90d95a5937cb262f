use Rattle.std.proofs.Common.{◌∙◌, arith}
use Rattle.std.proofs.lemmas.Int.{ints}
use Rattle.sot_iv.proofs.Wide.{word}
use Rattle.sot_iv.proofs.Floors.{rests_in_order}
use Rattle.sot_iv.proofs.ends.rest_of.Goals as goal

pub ordered-requires : goal.ordered-requires
ordered-requires c =
    let lo = word c.rest_above-lo.result (record { sfits = c.rest_above-lo.type_inv }) ∙ c.rest_above-lo.ensures in
    let hi = word c.rest_above-hi.result (record { sfits = c.rest_above-hi.type_inv }) ∙ c.rest_above-hi.ensures in
    let f = word c.floor_above.result (record { sfits = c.floor_above.type_inv }) ∙ c.floor_above.ensures in
    let g = word c.floor_above-2.result (record { sfits = c.floor_above-2.type_inv }) ∙ c.floor_above-2.ensures in
    let le = rw (f, g, word c.args.a c.ranges.a, word c.args.b c.ranges.b, word c.args.by c.ranges.by) at c.if-floor_above.true in
    rw (lo, hi, word c.args.a c.ranges.a, word c.args.b c.ranges.b, word c.args.by c.ranges.by)
    (rests_in_order c.args.a c.args.b c.args.by c.requires.divisor c.requires.order (grind (arith, ints, le)))
