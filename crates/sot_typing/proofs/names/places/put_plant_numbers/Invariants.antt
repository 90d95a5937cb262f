-- The loop of `put_plant_numbers`: what stands, and then those of the names that are left.
use Rattle.std.proofs.Common.{◌≡◌, ◌++◌, map, drop}
use Rattle.sot_rules.specs.Indexes.{program_in}
use Rattle.sot_typing.specs.Resolved.{plant_place}
use Rattle.sot_typing.proofs.names.places.put_plant_numbers.Given as goal

abbrev pub invariant-loop-name : goal.invariant-loop-name
invariant-loop-name l =
    l.plants.items ++ map (plant_place (program_in l.index)) (drop l.name-index l.names)
    ≡ l.initial.plants.items ++ map (plant_place (program_in l.index)) l.names
