-- Of `add_noise`: that its loop keeps what it says, and its promises.
use Rattle.std.proofs.Common.{[], ◌∷◌, map, refl, ap, ◌∙◌, ◌++◌}
use Rattle.sot_rules.specs.Names.{noise_thing}
use Rattle.sot_typing.specs.Things.{things_in}
use Rattle.sot_typing.proofs.Listings.{add_next, add_done}
use Rattle.sot_typing.proofs.names.gather.add_noise.Goals as goal

pub loop-f-preserved : goal.loop-f-preserved
loop-f-preserved c =
    add_next things_in (λ xs. map noise_thing xs) (λ x. noise_thing x ∷ []) (λ x more. refl) refl c.args.noise.now c.loop-f.f-index c.loop-f.things.items _
    c.loop-f.invariant c.f-item.result c.loop-f-test.true c.f-item.is _
    (c.in_ok-add.ensures ∙ ap (λ z. things_in c.loop-f.things.items ++ z ∷ []) c.noise_thing.ensures)

pub returns : goal.returns
returns c =
    add_done things_in (λ xs. map noise_thing xs) (λ x. noise_thing x ∷ []) (λ x more. refl) refl c.args.noise.now c.loop-f.f-index c.loop-f.things.items _
    c.loop-f.invariant c.loop-f-test.false
