-- The loop of `put_states`: what stands, and then the rows of the state variables that are left.
use Rattle.std.proofs.Common.{◌≡◌, ◌++◌, map, drop}
use Rattle.sot_typing.specs.Resolved.{state_info}
use Rattle.sot_typing.proofs.tables.parts.put_states.Given as goal

abbrev pub invariant-loop-s : goal.invariant-loop-s
invariant-loop-s l = l.infos.items ++ map state_info (drop l.s-index l.states) ≡ l.initial.infos.items ++ map state_info l.states
