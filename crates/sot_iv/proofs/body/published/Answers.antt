use Rattle.std.proofs.Common.{rules, ◌≡◌, ◌<◌, length, get_or, ap, FitsSigned, w64, refl, sym, ◌∙◌}
use Rattle.std.proofs.lemmas.Option.{slice_get-get_or}
use Rattle.sot_lang.specs.Tables.{Tables}
use Rattle.sot_iv.proofs.Wide.{word}
use Rattle.sot_iv.proofs.RangeReads.{scalar_value}
use Rattle.sot_iv.proofs.body.published.Goals as goal

pub returns : goal.returns
returns c =
    let info = c.index-info.result.now in
    let x = c.in_ok-x.x in
    let lo_fits : FitsSigned w64 info.lo = search rules in
    let hi_fits : FitsSigned w64 info.hi = search rules in
    let below : c.index.result.now < length c.args.p.now.scalars =
    c.requires.node.written c.args.slot c.index.result.now
    (rw (slice_get-get_or c.args.node.now.writes.items c.args.slot c.index.result.now c.requires.slot, ← c.index.ensures) refl) in
    let here : info ≡ get_or c.args.p.now.scalars c.index.result.now info = c.index-info.ensures
    ∙ ap (λ (t : Tables). get_or t.scalars c.index.result.now info) c.p.view_is in
    rw (word info.lo lo_fits, word info.hi hi_fits) at c.inside.ensures
    ∙ sym (scalar_value c.args.p.now c.args.node.now c.args.slot c.index.result.now info c.args.at _ x c.requires.slot c.index.ensures below here
    (sym c.interval_of.ensures ∙ c.in_ok-x.was))
