-- Of `put_node_lists`: what its calls ask for, and its promises.
use Rattle.std.proofs.Common.{List, map, ap, ◌++◌, ◌∙◌, sym, subst}
use Rattle.std.specs.List.{All}
use Rattle.std.specs.Prelude.{flat_map}
use Rattle.sot_syntax_tree.specs.declared.tree.LocalDecl.{LocalDecl}
use Rattle.sot_syntax_tree.specs.TreeViews.{local_view, node_view}
use Rattle.sot_rules.specs.Indexes.{program_in}
use Rattle.sot_typing.specs.Parts.{LocalFits}
use Rattle.sot_typing.specs.Resolved.{slots_meant, scalars_meant, local_info}
use Rattle.sot_typing.proofs.Filled.{node_filled}
use Rattle.sot_typing.proofs.Gathered.{all_mapped}
use Rattle.sot_typing.proofs.tables.rows.put_node_lists.Goals as goal

pub put_locals-requires : goal.put_locals-requires
put_locals-requires c =
    subst (λ (z : List LocalDecl). All (λ l. LocalFits (local_view l)) z) (sym c.deref-3.ensures.value)
    (all_mapped LocalFits local_view c.args.n.now.locals.items c.requires.fits.locals)

pub returns : goal.returns
returns c =
    let p = program_in c.args.index.now in
    let o = c.args.info.now in
    node_filled p (node_view c.args.n.now) o _ _ _ c.requires.bare
    (c.in_ok-put_all_slots.ensures ∙ ap (λ z. o.reads.items ++ flat_map (slots_meant p) z) c.deref.ensures.value)
    (c.in_ok-put_all_scalars.ensures ∙ ap (λ z. o.writes.items ++ flat_map (scalars_meant p) z) c.deref-2.ensures.value)
    (c.in_ok-put_locals.ensures ∙ ap (λ z. o.locals.items ++ map local_info (map local_view z)) c.deref-3.ensures.value)
