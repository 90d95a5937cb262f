-- The loop of `add_noise`: the disturbances so far are in the table.
use Rattle.std.proofs.Common.{List, ◌++◌, map, take}
use Rattle.sot_rules.specs.Names.{Part, Thing, noise_thing}
use Rattle.sot_rules.specs.Alike.{StandsFor}
use Rattle.sot_rules.proofs.names.gather.add_noise.Given as goal

abbrev pub invariant-loop-f : goal.invariant-loop-f
invariant-loop-f l =
    (tables : List (List Part)) (xs : List Thing) → StandsFor tables l.fn.things xs → StandsFor tables l.things (xs ++ map noise_thing (take l.f-index l.noise))
