-- The loop of `state_named`: nothing of that name so far.
use Rattle.std.proofs.Common.{◌≡◌, ◌+◌, drop, find, map}
use Rattle.std.specs.List.{position_or_len}
use Rattle.sot_rules.specs.Names.{state_part}
use Rattle.sot_typing.proofs.Searches.{is_named}
use Rattle.sot_typing.proofs.names.things.state_named.Given as goal

abbrev pub invariant-loop-place : goal.invariant-loop-place
invariant-loop-place l = record {
  found : find (is_named l.name) (map state_part (drop l.place l.states)) ≡ find (is_named l.name) (map state_part l.states);
  place : l.place + position_or_len (is_named l.name) (map state_part (drop l.place l.states)) ≡ position_or_len (is_named l.name) (map state_part l.states);
}
