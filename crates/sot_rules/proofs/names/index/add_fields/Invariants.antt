-- The loop of `add_fields`: the table gives what the fields so far do.
use Rattle.std.proofs.Common.{◌≡◌, ℕ, List, map, take}
use Rattle.sot_rules.specs.Names.{field_part}
use Rattle.sot_names.specs.NameTables.{found}
use Rattle.sot_rules.specs.Indexes.{sort_in}
use Rattle.sot_rules.proofs.names.index.add_fields.Given as goal

abbrev pub invariant-loop-f : goal.invariant-loop-f
invariant-loop-f l = (name : List ℕ) → found l.table name ≡ sort_in (map field_part (take l.f-index l.fields)) name
