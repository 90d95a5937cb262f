-- The loop of `field_sort`: no field of the name so far.
use Rattle.std.proofs.Common.{◌≡◌, drop, map}
use Rattle.sot_rules.specs.Names.{field_part}
use Rattle.sot_rules.specs.Indexes.{sort_in}
use Rattle.sot_rules.proofs.names.scope.field_sort.Given as goal

abbrev pub invariant-loop-f : goal.invariant-loop-f
invariant-loop-f l = sort_in (map field_part (drop l.f-index l.fields)) l.name ≡ sort_in (map field_part l.fields) l.name
