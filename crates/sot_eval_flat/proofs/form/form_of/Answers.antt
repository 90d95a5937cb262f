use Rattle.std.proofs.Common.{◌≡◌, length, get_or, refl, sym, ap, ◌∙◌}
use Rattle.std.proofs.lemmas.Option.{slice_get_read}
use Rattle.sot_lists.specs.Places.{At}
use Rattle.sot_lang.specs.Tables.{Tables}
use Rattle.sot_eval_flat.proofs.form.form_of.Goals as goal

pub of-requires : goal.of-requires
of-requires c =
    let p = c.args.p.now in
    let info = c.index.result.now in
    let is : info ≡ get_or p.nodes c.args.node info = c.index.ensures ∙ ap (λ (t : Tables). get_or t.nodes c.args.node info) c.p.view_is in
    let here : At p.nodes c.args.node info = slice_get_read p.nodes (length p.nodes) c.args.node info refl c.requires is in
    record { coded = (info, c.deref.result.now, here, (c.in-Some.acts, c.in-Some.is, sym c.deref.ensures.value)) }
