use Rattle.std.proofs.Common.{◌∙◌, ◌+ℤ◌, arith}
use Rattle.std.proofs.lemmas.Int.{ints}
use Rattle.sot_iv.proofs.Wide.{of_two, fitted_same}
use Rattle.sot_iv.proofs.ends.wide_sum.Goals as goal

pub fit-requires : goal.fit-requires
fit-requires c =
    let lo = of_two (λ x y. x +ℤ y) c.plus-lo.result c.args.a c.args.c c.ranges.a c.ranges.c c.plus-lo.type_inv c.plus-lo.ensures in
    let hi = of_two (λ x y. x +ℤ y) c.plus-hi.result c.args.b c.args.d c.ranges.b c.ranges.d c.plus-hi.type_inv c.plus-hi.ensures in
    rw (lo, hi) (omega (arith, ints, c.requires.first, c.requires.second))

pub returns : goal.returns
returns c =
    let lo = of_two (λ x y. x +ℤ y) c.plus-lo.result c.args.a c.args.c c.ranges.a c.ranges.c c.plus-lo.type_inv c.plus-lo.ensures in
    let hi = of_two (λ x y. x +ℤ y) c.plus-hi.result c.args.b c.args.d c.ranges.b c.ranges.d c.plus-hi.type_inv c.plus-hi.ensures in
    c.fit.ensures ∙ fitted_same c.args.at _ _ _ _ lo hi
