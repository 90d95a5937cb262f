use Rattle.std.proofs.Common.{◌∙◌}
use Rattle.std.proofs.lemmas.Int.{to_z-of_z}
use mir.Syntax.{w128}
use Rattle.sot_iv.proofs.Wide.{wide, fitted_same, in_order, least_same, greatest_same}
use Rattle.sot_iv.proofs.ends.span_of.Goals as goal

pub fit-requires : goal.fit-requires
fit-requires c =
    let l = wide c.least-lo.result c.least-lo.type_inv ∙ c.least-lo.ensures
    ∙ least_same _ _ _ _ _ _ _ _ (to_z-of_z w128 c.args.p c.ranges.p) (to_z-of_z w128 c.args.q c.ranges.q) (to_z-of_z w128 c.args.r c.ranges.r)
    (to_z-of_z w128 c.args.s c.ranges.s) in
    let g = wide c.greatest-hi.result c.greatest-hi.type_inv ∙ c.greatest-hi.ensures
    ∙ greatest_same _ _ _ _ _ _ _ _ (to_z-of_z w128 c.args.p c.ranges.p) (to_z-of_z w128 c.args.q c.ranges.q) (to_z-of_z w128 c.args.r c.ranges.r)
    (to_z-of_z w128 c.args.s c.ranges.s) in
    rw (l, g) (in_order c.args.p c.args.q c.args.r c.args.s)

pub returns : goal.returns
returns c =
    let l = wide c.least-lo.result c.least-lo.type_inv ∙ c.least-lo.ensures
    ∙ least_same _ _ _ _ _ _ _ _ (to_z-of_z w128 c.args.p c.ranges.p) (to_z-of_z w128 c.args.q c.ranges.q) (to_z-of_z w128 c.args.r c.ranges.r)
    (to_z-of_z w128 c.args.s c.ranges.s) in
    let g = wide c.greatest-hi.result c.greatest-hi.type_inv ∙ c.greatest-hi.ensures
    ∙ greatest_same _ _ _ _ _ _ _ _ (to_z-of_z w128 c.args.p c.ranges.p) (to_z-of_z w128 c.args.q c.ranges.q) (to_z-of_z w128 c.args.r c.ranges.r)
    (to_z-of_z w128 c.args.s c.ranges.s) in
    c.fit.ensures ∙ fitted_same c.args.at _ _ _ _ l g
