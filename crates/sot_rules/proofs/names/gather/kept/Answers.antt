-- Of `kept`: its promises.
use Rattle.std.proofs.Common.{◌≡◌, ◌∙◌, Some, ap, map, refl, sym}
use Rattle.std.specs.Option.{option_map}
use Rattle.std.specs.List.{slice_get}
use Rattle.std.proofs.lemmas.Option.{slice_get-map, slice_get_read}
use Rattle.sot_syntax_tree.specs.TreeViews.{declaration_view}
use Rattle.sot_rules.specs.Alike.{kept_of_list, tables_in}
use Rattle.sot_names.proofs.NameTables.{same_by}
use Rattle.sot_rules.proofs.StandsFor.{found_named, parts_at, kept_alike}
use Rattle.sot_rules.proofs.names.gather.kept.Goals as goal

pub returns-in-Some : goal.returns-in-Some
returns-in-Some c =
    let x = c.args.index.now in
    let k = c.in-Some.k in
    let ds = map declaration_view x.decls.now in
    let d = declaration_view c.index-index-k.result in
    let at : slice_get ds k ≡ Some d =
    slice_get-map declaration_view x.decls.now k
    ∙ ap (option_map declaration_view) (slice_get_read x.decls.now _ k c.index-index-k.result refl c.in-Some.ensures.within c.index-index-k.is) in
    let means = sym c.in-Some.ensures.meant ∙ at in
    kept_alike c.args.list (tables_in x) k c.args.name.now.name d c.kept_of_list.result _ means
    (same_by (found_named c.args.name.now.name ds d means))
    (c.kept_of_list.ensures ∙ sym (ap (λ z. kept_of_list c.args.list k (declaration_view z)) c.index-index-k.is))
    (λ n. parts_at x.parts.items ds k d n (c.requires.parts n) at)
