-- The loop of `put_all_slots`: what stands, and then what is read by the names that are left.
use Rattle.std.proofs.Common.{◌≡◌, ◌++◌, drop}
use Rattle.std.specs.Prelude.{flat_map}
use Rattle.sot_rules.specs.Indexes.{program_in}
use Rattle.sot_typing.specs.Resolved.{slots_meant}
use Rattle.sot_typing.proofs.names.places.put_all_slots.Given as goal

abbrev pub invariant-loop-name : goal.invariant-loop-name
invariant-loop-name l =
    l.slots.items ++ flat_map (slots_meant (program_in l.index)) (drop l.name-index l.names)
    ≡ l.initial.slots.items ++ flat_map (slots_meant (program_in l.index)) l.names
