-- The loop of `add_states`: the state variables so far are in the table.
use Rattle.std.proofs.Common.{List, ◌++◌, map, take}
use Rattle.sot_rules.specs.Names.{Part, Thing, state_thing}
use Rattle.sot_rules.specs.Alike.{StandsFor}
use Rattle.sot_rules.proofs.names.gather.add_states.Given as goal

abbrev pub invariant-loop-s : goal.invariant-loop-s
invariant-loop-s l =
    (tables : List (List Part)) (xs : List Thing) → StandsFor tables l.fn.things xs
    → StandsFor tables l.things (xs ++ map state_thing (take l.s-index l.states))
