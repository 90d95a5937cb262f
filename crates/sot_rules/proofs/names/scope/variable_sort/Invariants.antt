-- The loop of `variable_sort`: no state variable of the name so far.
use Rattle.std.proofs.Common.{◌≡◌, drop, map}
use Rattle.sot_rules.specs.Names.{state_part}
use Rattle.sot_rules.specs.Indexes.{sort_in}
use Rattle.sot_rules.proofs.names.scope.variable_sort.Given as goal

abbrev pub invariant-loop-s : goal.invariant-loop-s
invariant-loop-s l = sort_in (map state_part (drop l.s-index l.states)) l.name ≡ sort_in (map state_part l.states) l.name
