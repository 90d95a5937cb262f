-- Of `put_plant_numbers`: what its calls ask for, that its loop keeps what it says, and its promises.
use Rattle.std.proofs.Common.{◌≡◌, ◌∙◌, ◌∷◌, [], ◌++◌, map, true, refl, sym, ap, subst}
use Rattle.sot_rules.specs.Names.{meaning, is_plant}
use Rattle.sot_rules.specs.Indexes.{program_in}
use Rattle.sot_typing.specs.Resolved.{plant_place}
use Rattle.sot_typing.proofs.Listings.{add_next, add_done}
use Rattle.sot_typing.proofs.names.places.put_plant_numbers.Goals as goal

pub plant_number-requires-clause-plant : goal.plant_number-requires-clause-plant
plant_number-requires-clause-plant c =
    subst (λ i. is_plant (meaning (program_in c.args.index.now) i) ≡ true) (sym c.name-item.is)
    (c.requires.plants c.loop-name.name-index c.name-item.result c.loop-name-test.true)

pub loop-name-preserved : goal.loop-name-preserved
loop-name-preserved c =
    let of = plant_place (program_in c.args.index.now) in
    add_next (λ ts. ts) (map of) (λ x. of x ∷ []) (λ x more. refl) refl c.args.names.now c.loop-name.name-index c.loop-name.plants.items _ c.loop-name.invariant
    c.name-item.result c.loop-name-test.true c.name-item.is _
    (c.in_ok-push.ensures.items ∙ ap (λ n. c.loop-name.plants.items ++ n ∷ []) c.plant_number.ensures)

pub returns : goal.returns
returns c =
    let of = plant_place (program_in c.args.index.now) in
    add_done (λ ts. ts) (map of) (λ x. of x ∷ []) (λ x more. refl) refl c.args.names.now c.loop-name.name-index c.loop-name.plants.items _ c.loop-name.invariant
    c.loop-name-test.false
