-- Of `put_scalars`: that its loop keeps what it says.
use Rattle.std.proofs.Common.{refl}
use Rattle.sot_typing.proofs.Counted.{step_counted}
use Rattle.sot_typing.proofs.names.places.put_scalars.Goals as goal

pub loop-i-preserved : goal.loop-i-preserved
loop-i-preserved c =
    step_counted (λ xs. xs) (λ x. x) (λ x xs. refl) c.args.first c.args.count c.loop-i.i _ _ _ c.loop-i-test.true c.in_ok-push.ensures.items c.loop-i.invariant
