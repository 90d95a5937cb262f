use Rattle.std.proofs.Common.{◌∙◌, arith}
use Rattle.std.specs.Prelude.{neg_ℤ}
use Rattle.std.proofs.lemmas.Int.{ints}
use Rattle.sot_iv.proofs.Wide.{of_one, fitted_same}
use Rattle.sot_iv.proofs.ends.wide_negation.Goals as goal

pub fit-requires : goal.fit-requires
fit-requires c =
    let lo = of_one neg_ℤ c.minus-lo.result c.args.b c.ranges.b c.minus-lo.type_inv c.minus-lo.ensures in
    let hi = of_one neg_ℤ c.minus-hi.result c.args.a c.ranges.a c.minus-hi.type_inv c.minus-hi.ensures in
    rw (lo, hi) (omega (arith, ints, c.requires))

pub returns : goal.returns
returns c =
    let lo = of_one neg_ℤ c.minus-lo.result c.args.b c.ranges.b c.minus-lo.type_inv c.minus-lo.ensures in
    let hi = of_one neg_ℤ c.minus-hi.result c.args.a c.ranges.a c.minus-hi.type_inv c.minus-hi.ensures in
    c.fit.ensures ∙ fitted_same c.args.at _ _ _ _ lo hi
