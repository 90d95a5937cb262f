-- Of `put_scalar_slots`: that its loop keeps what it says, and its promises.
use Rattle.std.proofs.Common.{refl, map}
use Rattle.sot_lang.specs.declared.tables.Slot.TheVariants.{Scalar}
use Rattle.sot_typing.proofs.Counted.{step_counted, none_counted}
use Rattle.sot_typing.proofs.names.places.put_scalar_slots.Goals as goal

pub loop-i-preserved : goal.loop-i-preserved
loop-i-preserved c =
    step_counted (map (λ k. Scalar k)) (λ k. Scalar k) (λ x xs. refl) c.args.first c.args.count c.loop-i.i _ _ _ c.loop-i-test.true c.in_ok-push.ensures.items
    c.loop-i.invariant

pub returns : goal.returns
returns c = none_counted (map (λ k. Scalar k)) refl c.args.first c.args.count c.loop-i.i _ _ c.loop-i-test.false c.loop-i.invariant
