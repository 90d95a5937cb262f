-- Of `state_table`: its promise of many parts.
use Rattle.std.proofs.Common.{◌∙◌, ap, sym}
use Rattle.sot_names.specs.NameTables.{found}
use Rattle.sot_rules.proofs.Lookups.{part_found}
use Rattle.sot_rules.proofs.names.index.state_table.Goals as goal

pub returns : goal.returns
returns c name =
    sym (part_found name c.in_ok-kept.kept.value.entries)
    ∙ ap (λ m. found m name) c.in_ok-kept.ensures.ok
    ∙ c.in_ok-table.ensures name
