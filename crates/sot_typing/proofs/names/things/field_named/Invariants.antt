-- The loop of `field_named`: nothing of that name so far.
use Rattle.std.proofs.Common.{◌≡◌, ◌+◌, drop, find, map}
use Rattle.std.specs.List.{position_or_len}
use Rattle.sot_rules.specs.Names.{field_part}
use Rattle.sot_typing.proofs.Searches.{is_named}
use Rattle.sot_typing.proofs.names.things.field_named.Given as goal

abbrev pub invariant-loop-place : goal.invariant-loop-place
invariant-loop-place l = record {
  found : find (is_named l.name) (map field_part (drop l.place l.fields)) ≡ find (is_named l.name) (map field_part l.fields);
  place : l.place + position_or_len (is_named l.name) (map field_part (drop l.place l.fields)) ≡ position_or_len (is_named l.name) (map field_part l.fields);
}
