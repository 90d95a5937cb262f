-- Of `add_states`: that its loop keeps what it says, and its promises.
use Rattle.std.proofs.Common.{[], ◌∷◌, map, refl, ap, ◌∙◌, ◌++◌}
use Rattle.sot_rules.specs.Names.{state_thing}
use Rattle.sot_typing.specs.Things.{things_in}
use Rattle.sot_typing.proofs.Listings.{add_next, add_done}
use Rattle.sot_typing.proofs.names.gather.add_states.Goals as goal

pub loop-s-preserved : goal.loop-s-preserved
loop-s-preserved c =
    add_next things_in (λ xs. map state_thing xs) (λ x. state_thing x ∷ []) (λ x more. refl) refl c.args.states.now c.loop-s.s-index c.loop-s.things.items _
    c.loop-s.invariant c.s-item.result c.loop-s-test.true c.s-item.is _
    (c.in_ok-add.ensures ∙ ap (λ z. things_in c.loop-s.things.items ++ z ∷ []) c.state_thing.ensures)

pub returns : goal.returns
returns c =
    add_done things_in (λ xs. map state_thing xs) (λ x. state_thing x ∷ []) (λ x more. refl) refl c.args.states.now c.loop-s.s-index c.loop-s.things.items _
    c.loop-s.invariant c.loop-s-test.false
