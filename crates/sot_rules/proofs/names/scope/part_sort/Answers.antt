-- Of `part_sort`: its promise of a table.
use Rattle.std.proofs.Common.{◌∙◌, ap, sym}
use Rattle.sot_rules.specs.Scopes.{parts_in, parts_of}
use Rattle.sot_rules.specs.Indexes.{sort_in}
use Rattle.sot_rules.proofs.Lookups.{part_found}
use Rattle.sot_rules.proofs.names.scope.part_sort.Goals as goal

pub returns-in-Table : goal.returns-in-Table
returns-in-Table c =
    c.copied.ensures ∙ c.get.ensures.value ∙ part_found c.args.name.now c.deref.result.now.entries
    ∙ ap (λ m. sort_in (parts_in m) c.args.name.now) c.deref.ensures
    ∙ sym (ap (λ t. sort_in (parts_of t) c.args.name.now) c.in-Table.is)
