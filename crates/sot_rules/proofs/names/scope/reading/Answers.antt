-- Of `reading`: its promises.
use Rattle.std.proofs.Common.{◌∙◌, ap, sym, map}
use Rattle.sot_rules.specs.NameTables.{entries_in, found_in}
use Rattle.sot_rules.specs.Scopes.{parts_of, kept_parts, names_in, field_in, reading_of}
use Rattle.sot_rules.proofs.Lookups.{thing_found}
use Rattle.sot_rules.proofs.names.scope.reading.Goals as goal

pub returns : goal.returns
unfolding names_in
returns c =
    let names = c.args.names.now in
    let field = field_in c.args.field in
    let view = kept_parts (map parts_of names.tables.now) in
    let name = ap (found_in names.things) c.as_bytes.ensures in
    c.reading_of.ensures
    ∙ ap (reading_of view c.args.first.now field) (c.thing_of-kept.ensures ∙ name)
    ∙ sym (thing_found view c.args.first.now field (entries_in names.things))
