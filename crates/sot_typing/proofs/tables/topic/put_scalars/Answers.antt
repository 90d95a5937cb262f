-- Of `put_scalars`: its promises.
use Rattle.std.proofs.Common.{◌≡◌, ◌∙◌, ◌++◌, OnOk, ap, subst, List}
use Rattle.sot_lang.specs.declared.tables.ScalarInfo.{ScalarInfo}
use Rattle.sot_syntax_tree.specs.TreeViews.{shape_view, topic_view}
use Rattle.sot_rules.specs.Tests.{start_values}
use Rattle.sot_typing.specs.Parts.{field_scalars}
use Rattle.sot_typing.proofs.Scalars.{record_scalars}
use Rattle.sot_typing.proofs.tables.topic.put_scalars.Goals as goal

pub returns-in-Fields : goal.returns-in-Fields
returns-in-Fields c =
    let t = topic_view c.args.t.now in
    let same =
    ap (λ z. field_scalars c.args.topic z (start_values t.init)) c.deref.ensures.value
    ∙ record_scalars c.args.topic t c.in-Fields.fields.items (ap shape_view c.in-Fields.is) c.requires.starts
    in
    subst (λ (z : List ScalarInfo). OnOk c.put_fields.result (c.put_fields.new.scalars.items ≡ c.args.scalars.now.items ++ z)) same c.put_fields.ensures
