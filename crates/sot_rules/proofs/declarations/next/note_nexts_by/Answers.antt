-- Of `note_nexts_by`: its promises.
use Rattle.std.proofs.Common.{◌∙◌, [], ap, ap₂, flat_map, length, map, nat_lt}
use Rattle.sot_syntax_tree.specs.TreeViews.{next_view, plant_view}
use Rattle.sot_rules.specs.declared.fault.TypeKind.TheVariants.{NextMissing}
use Rattle.sot_rules.specs.Faults.{least, order_faults, when}
use Rattle.sot_rules.specs.Scopes.{names_in}
use Rattle.sot_rules.specs.Indexes.{program_in}
use Rattle.sot_rules.specs.Names.{state_thing}
use Rattle.sot_rules.specs.Alike.{tables_in}
use Rattle.sot_rules.specs.Nexts.{next_faults_in}
use Rattle.sot_rules.proofs.Nexts.{nexts_noted}
use Rattle.sot_rules.proofs.StandsFor.{names_alike, stands_same}
use Rattle.sot_rules.proofs.declarations.next.note_nexts_by.Goals as goal

pub returns : goal.returns
returns c =
    let tables = tables_in c.args.index.now in
    let used = names_in (record c.args.used.now { things = c.add_plant.new.things }) in
    let given = names_in (record c.args.given.now { things = c.add_states.new.things }) in
    let q = c.args.q.now in
    nexts_noted (program_in c.args.index.now) (plant_view q) used given q.next.items
    c.args.first.now c.note_each.new.first c.note_order.new.first c.note_short.new.first
    (names_alike (record c.args.used.now { things = c.add_plant.new.things }) tables _ c.requires.used_tables
    (c.in_ok-add_plant.ensures [] c.requires.none_used))
    (names_alike (record c.args.given.now { things = c.add_states.new.things }) tables _ c.requires.given_tables
    (stands_same tables _ _ c.add_states.new.things (ap (map state_thing) c.deref.ensures.value) (c.in_ok-add_states.ensures tables [] c.requires.none_given)))
    (c.note_each.ensures ∙ ap (λ ns. least c.args.first.now (flat_map (next_faults_in used given) (map next_view ns))) c.deref-2.ensures.value)
    (c.note_order.ensures ∙ ap₂ (λ ss ns. least c.note_each.new.first (order_faults ss (map next_view ns))) c.deref-3.ensures.value c.deref-4.ensures.value)
    (c.note_short.ensures ∙ ap₂ (λ ss ns. least c.note_order.new.first (when (nat_lt (length ns) (length ss)) q.end NextMissing)) c.deref-5.ensures.value
    c.deref-6.ensures.value)
