-- Of `add_scope`: its promises.
use Rattle.std.proofs.Common.{◌++◌, ap, ap₂, map}
use Rattle.std.specs.List.{filter_map}
use Rattle.sot_syntax_tree.specs.TreeViews.{local_view}
use Rattle.sot_rules.specs.Names.{either_meant, local_thing, meaning, topic_meant}
use Rattle.sot_rules.specs.Indexes.{program_in}
use Rattle.sot_rules.specs.Alike.{tables_in}
use Rattle.sot_rules.proofs.StandsFor.{adds_both, adds_same}
use Rattle.sot_rules.proofs.names.owner.add_scope.Goals as goal

pub returns-clause-read : goal.returns-clause-read
returns-clause-read c =
    let p = program_in c.args.index.now in
    let tables = tables_in c.args.index.now in
    adds_same tables c.args.read.now c.add_locals.new.things _ _
    (ap₂ (λ is ls. filter_map (λ i. either_meant (meaning p i)) is ++ map local_thing (map local_view ls)) c.deref.ensures.value c.deref-2.ensures.value)
    (adds_both tables c.args.read.now c.add_named.new.things c.add_locals.new.things _ _ c.in_ok-add_named.ensures (c.in_ok-add_locals.ensures tables))

pub returns-clause-local : goal.returns-clause-local
returns-clause-local c =
    let tables = tables_in c.args.index.now in
    adds_same tables c.args.local.now c.add_locals-2.new.things _ _ (ap (λ ls. map local_thing (map local_view ls)) c.deref-3.ensures.value)
    (c.in_ok-add_locals-2.ensures tables)

pub returns-clause-written : goal.returns-clause-written
returns-clause-written c =
    let p = program_in c.args.index.now in
    adds_same (tables_in c.args.index.now) c.args.written.now c.add_named-2.new.things _ _
    (ap (filter_map (λ i. topic_meant (meaning p i))) c.deref-4.ensures.value) c.in_ok-add_named-2.ensures
