-- Of `are_past`: that its loop keeps what it says, and its promises.
use Rattle.std.proofs.Common.{ap}
use Rattle.std.proofs.lemmas.List.{drop_all}
use Rattle.sot_rules.specs.Faults.{least, passes}
use Rattle.sot_rules.proofs.Sizes.{past_rest}
use Rattle.sot_rules.proofs.declarations.limit.are_past.Goals as goal

pub loop-name-preserved : goal.loop-name-preserved
loop-name-preserved c h =
    c.loop-name.invariant
    (past_rest c.args.names.now c.loop-name.name-index c.name-item.result c.args.first c.loop-name-test.true c.name-item.is
    (c.is_past.ensures c.if-not-is_past.false) h)

pub returns : goal.returns
returns c e =
    c.loop-name.invariant (λ size limit sum. ap (λ is. least c.args.first (passes size limit sum is))
    (drop_all c.loop-name.name-index c.args.names.now c.loop-name-test.false))
