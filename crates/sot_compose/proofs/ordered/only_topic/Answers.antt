use Rattle.std.proofs.Common.{rules, arith, length, refl, ◌∙◌, slice_index_or, ap}
use Rattle.std.proofs.lemmas.Option.{slice_get_read, slice_get-get_or}
use Rattle.sot_lang.specs.declared.tables.ScalarInfo.{ScalarInfo}
use Rattle.sot_compose.proofs.InOrder.{only}
use Rattle.sot_compose.proofs.ordered.only_topic.Goals as goal

pub bounds-infos-scalar : goal.bounds-infos-scalar
bounds-infos-scalar c = c.requires _ (0, slice_get-get_or c.args.scalars.now 0 0 (omega arith))

pub bounds-infos-scalar-else-scalars-ne1 : goal.bounds-infos-scalar-else-scalars-ne1
bounds-infos-scalar-else-scalars-ne1 c = c.requires _ (0, slice_get-get_or c.args.scalars.now 0 0 (omega arith))

pub returns : goal.returns
returns c u some =
    let k = slice_index_or c.args.scalars.now 0 0 in
    let there = c.requires k (0, slice_get-get_or c.args.scalars.now 0 0 (omega arith)) in
    only c.args.infos.now c.args.scalars.now c.index-infos-scalar.result (search rules)
    (slice_get_read c.args.infos.now (length c.args.infos.now) k c.index-infos-scalar.result refl there c.index-infos-scalar.is)
    u some
    ∙ ap (λ (i : ScalarInfo). i.topic) c.index-infos-scalar.is
