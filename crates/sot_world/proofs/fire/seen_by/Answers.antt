use Rattle.std.proofs.Common.{◌∙◌, map, ap, sym, subst}
use Rattle.std.proofs.lemmas.Option.{slice_get_within}
use Rattle.sot_lang.specs.Readings.{number_at}
use Rattle.sot_lists.proofs.Places.{at_same, read_at}
use Rattle.sot_world.specs.Changes.{AreThere}
use Rattle.sot_world.proofs.fire.seen_by.Goals as goal

pub of-requires : goal.of-requires
of-requires c =
    let there = c.requires in
    let at = read_at _ _ c.args.node _ (ap (λ t. t.nodes) c.p.view_is) (slice_get_within _ _ _ there.1) c.index.ensures in
    let slots = c.deref.ensures.value ∙ ap (λ x. x.reads.items) (at_same c.args.p.now.nodes c.args.node _ there.0 at there.1) in
    subst (AreThere c.args.scalars.now c.args.points.now) (sym slots) there.2

pub returns : goal.returns
returns c = λ info at_info.
    let at = read_at _ _ c.args.node _ (ap (λ t. t.nodes) c.p.view_is) (slice_get_within _ _ _ at_info) c.index.ensures in
    let slots = c.deref.ensures.value ∙ ap (λ x. x.reads.items) (at_same c.args.p.now.nodes c.args.node _ info at at_info) in
    c.of.ensures ∙ ap (map (number_at c.args.scalars.now c.args.points.now)) slots
