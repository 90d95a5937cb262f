-- The loop of `named`: nothing of that name so far, and how many numbers there were.
use Rattle.std.proofs.Common.{◌≡◌, ◌+◌, drop, length}
use Rattle.sot_rules.specs.Names.{reading}
use Rattle.sot_rules.specs.Scopes.{field_in}
use Rattle.sot_typing.specs.Terms.{references, place_of}
use Rattle.sot_typing.specs.Things.{things_in}
use Rattle.sot_typing.proofs.names.things.named.Given as goal

abbrev pub invariant-loop-x : goal.invariant-loop-x
invariant-loop-x l = record {
  read : reading (things_in (drop l.x-index l.things)) l.first (field_in l.field) ≡ reading (things_in l.things) l.first (field_in l.field);
  place : l.before + place_of (things_in (drop l.x-index l.things)) l.first (field_in l.field) ≡ place_of (things_in l.things) l.first (field_in l.field);
  room : l.before + length (references (things_in (drop l.x-index l.things))) ≡ length (references (things_in l.things));
}
