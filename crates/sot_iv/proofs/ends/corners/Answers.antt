use Rattle.std.proofs.Common.{◌∙◌}
use Rattle.sot_iv.proofs.Wide.{word, fitted_same, in_order, least_same, greatest_same}
use Rattle.sot_iv.proofs.ends.corners.Goals as goal

pub held-requires : goal.held-requires
held-requires c =
    let l = word c.lowest-lo.result (record { sfits = c.lowest-lo.type_inv }) ∙ c.lowest-lo.ensures
    ∙ least_same _ _ _ _ _ _ _ _ (word c.args.p c.ranges.p) (word c.args.q c.ranges.q) (word c.args.r c.ranges.r) (word c.args.s c.ranges.s) in
    let g = word c.highest-hi.result (record { sfits = c.highest-hi.type_inv }) ∙ c.highest-hi.ensures
    ∙ greatest_same _ _ _ _ _ _ _ _ (word c.args.p c.ranges.p) (word c.args.q c.ranges.q) (word c.args.r c.ranges.r) (word c.args.s c.ranges.s) in
    rw (l, g) (in_order c.args.p c.args.q c.args.r c.args.s)

pub returns : goal.returns
returns c =
    let l = word c.lowest-lo.result (record { sfits = c.lowest-lo.type_inv }) ∙ c.lowest-lo.ensures
    ∙ least_same _ _ _ _ _ _ _ _ (word c.args.p c.ranges.p) (word c.args.q c.ranges.q) (word c.args.r c.ranges.r) (word c.args.s c.ranges.s) in
    let g = word c.highest-hi.result (record { sfits = c.highest-hi.type_inv }) ∙ c.highest-hi.ensures
    ∙ greatest_same _ _ _ _ _ _ _ _ (word c.args.p c.ranges.p) (word c.args.q c.ranges.q) (word c.args.r c.ranges.r) (word c.args.s c.ranges.s) in
    c.held.ensures ∙ fitted_same c.args.at _ _ _ _ l g
