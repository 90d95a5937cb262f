-- Of `put_state_slots`: that its loop keeps what it says, and its promises.
use Rattle.std.proofs.Common.{◌≡◌, ◌∙◌, ◌+◌, ◌++◌, ◌∷◌, [], ap, refl, map, arith}
use Rattle.sot_lang.specs.declared.tables.Slot.TheVariants.{State}
use Rattle.sot_typing.proofs.Counted.{step_counted, none_counted}
use Rattle.sot_typing.proofs.names.places.put_state_slots.Goals as goal

pub loop-i-preserved : goal.loop-i-preserved
loop-i-preserved c =
    let i = c.loop-i.i in
    let from : i ≡ 0 + i = omega arith in
    step_counted (map (λ v. State c.args.plant v)) (λ v. State c.args.plant v) (λ x xs. refl) 0 c.args.count i _ _ _
    c.loop-i-test.true (c.in_ok-push.ensures.items ∙ ap (λ v. c.loop-i.slots.items ++ State c.args.plant v ∷ []) from) c.loop-i.invariant

pub returns : goal.returns
returns c = none_counted (map (λ v. State c.args.plant v)) refl 0 c.args.count c.loop-i.i _ _ c.loop-i-test.false c.loop-i.invariant
