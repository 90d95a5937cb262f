-- Of `is_distinct`: its promise.
use Rattle.std.proofs.Common.{◌∙◌, map, sym}
use Rattle.std.proofs.lemmas.Bool.{eqb-true}
use Rattle.std.proofs.lemmas.List.{length-map}
use Rattle.sot_syntax_tree.specs.TreeViews.{declaration_view}
use Rattle.sot_rules.proofs.Distinct.{names_distinct, none_repeat}
use Rattle.sot_rules.proofs.names.index.Index.is_distinct.Goals as goal

pub returns : goal.returns
returns c e =
    let decls = c.args.self.now.decls.now in
    none_repeat (map declaration_view decls)
    (names_distinct c.args.self.now.places (map declaration_view decls) c.len.ensures.unique c.requires.places
    (sym c.len.ensures.len ∙ eqb-true _ _ e ∙ sym (length-map decls declaration_view)))
