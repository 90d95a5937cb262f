-- Of `place`: its promises.
use Rattle.std.proofs.Common.{◌∙◌, ap, is_some, map}
use Rattle.sot_syntax_tree.specs.TreeViews.{declaration_view}
use Rattle.std.specs.Map.{lookup}
use Rattle.std.specs.Str.{bytes_eq}
use Rattle.sot_rules.specs.Indexes.{is_named}
use Rattle.sot_rules.proofs.NameTables.{known}
use Rattle.sot_rules.proofs.Indexes.{meant, within}
use Rattle.sot_rules.proofs.names.index.Index.place.Goals as goal

pub returns-clause-first : goal.returns-clause-first
returns-clause-first c =
    c.copied.ensures ∙ c.get.ensures.value
    ∙ ap (λ n. lookup (λ k. bytes_eq n k.now) c.args.self.now.places.entries) c.as_bytes.ensures
    ∙ c.requires.places c.args.name.now.name

pub returns-clause-known : goal.returns-clause-known
returns-clause-known c = ap is_some (returns-clause-first c) ∙ known (is_named c.args.name.now.name) (map declaration_view c.args.self.now.decls.now)

pub returns-clause-meant : goal.returns-clause-meant
returns-clause-meant c = meant (is_named c.args.name.now.name) (map declaration_view c.args.self.now.decls.now) c.copied.result (returns-clause-first c)

pub returns-clause-within : goal.returns-clause-within
returns-clause-within c = within declaration_view (is_named c.args.name.now.name) c.args.self.now.decls.now c.copied.result (returns-clause-first c)
