-- Of `note_locals`: its promises.
use Rattle.std.proofs.Common.{◌∙◌, [], ◌++◌, map, ap, List}
use Rattle.std.specs.Prelude.{flat_map}
use Rattle.sot_syntax_tree.specs.declared.tree.LocalDecl.{LocalDecl}
use Rattle.sot_syntax_tree.specs.TreeViews.{local_view, node_view}
use Rattle.sot_rules.specs.Lists.{places}
use Rattle.sot_rules.specs.Tests.{local_names}
use Rattle.sot_rules.specs.Faults.{least, together, repeats, past, local_lists}
use Rattle.sot_names.specs.SeenNames.{HasNames}
use Rattle.sot_names.specs.NameSets.{keys_in}
use Rattle.sot_rules.proofs.Mapped.{map_twice}
use Rattle.sot_names.proofs.NameSets.{two_held}
use Rattle.sot_rules.proofs.Sequences.{three_noted}
use Rattle.sot_rules.proofs.declarations.node.note_locals.Goals as goal

pub returns : goal.returns
returns c =
    let n = node_view c.args.n.now in
    let locals = c.args.n.now.locals.items in
    let names = λ (ls : List LocalDecl). map (λ (l : LocalDecl). l.name) ls in
    let used : HasNames (keys_in c.add_names.new.set) (n.reads ++ n.writes) =
    two_held (keys_in c.args.used.now) (keys_in c.add_names.new.set) n.reads c.deref.result.now n.writes c.requires c.in_ok-add_names.ensures
    c.deref.ensures.value in
    three_noted (flat_map (λ l. together (local_lists n l)) n.locals) (repeats [] (local_names n)) (past 16 (places (local_names n))) _ _ _ _
    (c.note_each_local.ensures n used ∙ ap (λ ls. least c.args.first.now (flat_map (λ l. together (local_lists n l)) (map local_view ls)))
    c.deref-2.ensures.value)
    (c.in_ok-note_repeats.ensures ∙ ap (λ is. least c.note_each_local.new.first (repeats [] is))
    (ap names c.deref-3.ensures.value ∙ map_twice (λ l. l.name) local_view locals))
    (c.note_past.ensures ∙ ap (λ is. least c.note_repeats.new.first (past 16 (places is)))
    (ap names c.deref-4.ensures.value ∙ map_twice (λ l. l.name) local_view locals))
