-- Of `meaning`: its promise where a declaration has the name.
use Rattle.std.proofs.Common.{◌∙◌, length, ap, refl, sym}
use Rattle.std.specs.Option.{option_map}
use Rattle.std.proofs.lemmas.Option.{slice_get-map, slice_get_read}
use Rattle.sot_syntax_tree.specs.TreeViews.{declaration_view}
use Rattle.sot_rules.proofs.names.index.Index.meaning.Goals as goal

pub returns-in-Some : goal.returns-in-Some
returns-in-Some c =
    let ds = c.args.self.now.decls.now in
    let k = c.in-Some.k in
    sym (slice_get-map declaration_view ds k ∙ ap (option_map declaration_view)
    (slice_get_read ds (length ds) k c.index-decls-k.result refl c.in-Some.ensures.within c.index-decls-k.is))
    ∙ c.in-Some.ensures.meant
