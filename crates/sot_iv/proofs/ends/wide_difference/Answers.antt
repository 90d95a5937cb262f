use Rattle.std.proofs.Common.{◌∙◌, ◌-ℤ◌, arith}
use Rattle.std.proofs.lemmas.Int.{ints}
use Rattle.sot_iv.proofs.Wide.{of_two, fitted_same}
use Rattle.sot_iv.proofs.ends.wide_difference.Goals as goal

pub fit-requires : goal.fit-requires
fit-requires c =
    let lo = of_two (λ x y. x -ℤ y) c.less-lo.result c.args.a c.args.d c.ranges.a c.ranges.d c.less-lo.type_inv c.less-lo.ensures in
    let hi = of_two (λ x y. x -ℤ y) c.less-hi.result c.args.b c.args.c c.ranges.b c.ranges.c c.less-hi.type_inv c.less-hi.ensures in
    rw (lo, hi) (omega (arith, ints, c.requires.first, c.requires.second))

pub returns : goal.returns
returns c =
    let lo = of_two (λ x y. x -ℤ y) c.less-lo.result c.args.a c.args.d c.ranges.a c.ranges.d c.less-lo.type_inv c.less-lo.ensures in
    let hi = of_two (λ x y. x -ℤ y) c.less-hi.result c.args.b c.args.c c.ranges.b c.ranges.c c.less-hi.type_inv c.less-hi.ensures in
    c.fit.ensures ∙ fitted_same c.args.at _ _ _ _ lo hi
