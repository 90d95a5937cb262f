-- Of `add_plant`: its promises.
use Rattle.std.proofs.Common.{◌++◌, ap₂, map}
use Rattle.std.specs.List.{filter_map}
use Rattle.sot_rules.specs.Names.{meaning, noise_thing, plant_meant, state_thing, topic_meant}
use Rattle.sot_rules.specs.Indexes.{program_in}
use Rattle.sot_rules.specs.Alike.{tables_in}
use Rattle.sot_rules.proofs.StandsFor.{adds_both, adds_same}
use Rattle.sot_rules.proofs.names.owner.add_plant.Goals as goal

pub returns : goal.returns
returns c =
    let p = program_in c.args.index.now in
    let tables = tables_in c.args.index.now in
    let first_two = ap₂ (λ ss is. map state_thing ss ++ filter_map (λ i. topic_meant (meaning p i)) is) c.deref.ensures.value c.deref-2.ensures.value in
    let first_three = ap₂ (λ xs is. xs ++ filter_map (λ i. plant_meant (meaning p i)) is) first_two c.deref-3.ensures.value in
    adds_same tables c.args.things.now c.add_noise.new.things _ _ (ap₂ (λ xs ns. xs ++ map noise_thing ns) first_three c.deref-4.ensures.value)
    (adds_both tables c.args.things.now c.add_named-2.new.things c.add_noise.new.things _ _
    (adds_both tables c.args.things.now c.add_named.new.things c.add_named-2.new.things _ _
    (adds_both tables c.args.things.now c.add_states.new.things c.add_named.new.things _ _ (c.in_ok-add_states.ensures tables) c.in_ok-add_named.ensures)
    c.in_ok-add_named-2.ensures)
    (c.in_ok-add_noise.ensures tables))
