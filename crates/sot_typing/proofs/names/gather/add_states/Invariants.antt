-- The loop of `add_states`: the state variables so far stand behind the others, and then those that are left.
use Rattle.std.proofs.Common.{◌≡◌, ◌++◌, drop, map}
use Rattle.sot_rules.specs.Names.{state_thing}
use Rattle.sot_typing.specs.Things.{things_in}
use Rattle.sot_typing.proofs.names.gather.add_states.Given as goal

abbrev pub invariant-loop-s : goal.invariant-loop-s
invariant-loop-s l = things_in l.things.items ++ map state_thing (drop l.s-index l.states) ≡ things_in l.fn.things.items ++ map state_thing l.states
