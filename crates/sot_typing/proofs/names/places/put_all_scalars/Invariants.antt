-- The loop of `put_all_scalars`: what stands, and then those of the names that are left.
use Rattle.std.proofs.Common.{◌≡◌, ◌++◌, drop}
use Rattle.std.specs.Prelude.{flat_map}
use Rattle.sot_rules.specs.Indexes.{program_in}
use Rattle.sot_typing.specs.Resolved.{scalars_meant}
use Rattle.sot_typing.proofs.names.places.put_all_scalars.Given as goal

abbrev pub invariant-loop-name : goal.invariant-loop-name
invariant-loop-name l =
    l.scalars.items ++ flat_map (scalars_meant (program_in l.index)) (drop l.name-index l.names)
    ≡ l.initial.scalars.items ++ flat_map (scalars_meant (program_in l.index)) l.names
