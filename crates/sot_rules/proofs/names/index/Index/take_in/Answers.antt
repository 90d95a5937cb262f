-- Of `take_in`: its promises.
use Rattle.std.proofs.Common.{◌∙◌, [], ap, length}
use Rattle.sot_syntax_tree.specs.declared.tree.Ident.{Ident}
use Rattle.sot_syntax_tree.specs.TreeViews.{declaration_view}
use Rattle.sot_rules.proofs.Indexes.{counted, places_more, owned_more, parts_more}
use Rattle.sot_rules.proofs.names.index.Index.take_in.Goals as goal

pub returns-clause-held : goal.returns-clause-held
returns-clause-held c ds held =
    let d = declaration_view c.args.d.now in
    record {
      places = places_more ds d c.args.self.now.places c.add_value.new.table _ _ c.in_ok-add_value.ensures held.places
          (c.as_bytes.ensures ∙ ap (λ (i : Ident). i.name) c.declared_name.ensures)
          (ap length c.as_slice-place.ensures.value ∙ counted _ _ c.args.self.now.parts.items ds (held.parts []));
      owned = owned_more ds d c.args.self.now.owned.keys c.note_owned.new.owned.keys c.in_ok-note_owned.ensures held.owned;
      parts = parts_more ds d c.args.self.now.parts.items c.push.new.self.items c.in_ok-table.table c.in_ok-push.ensures.items c.in_ok-table.ensures held.parts;
    }
