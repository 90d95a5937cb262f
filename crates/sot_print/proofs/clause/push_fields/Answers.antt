use Rattle.std.proofs.Common.{◌∙◌}
use Rattle.std.specs.String.{string_bytes}
use Rattle.sot_print.specs.Leaves.{field_words}
use Rattle.sot_print.proofs.Lists.{comma_step}
use Rattle.sot_print.proofs.clause.push_fields.Goals as goal

pub loop-place-preserved : goal.loop-place-preserved
loop-place-preserved c =
    comma_step field_words c.args.gap c.args.fields.now c.loop-place.place c.index-fields-place.result c.in_ok-own.own
    (string_bytes c.loop-place.out) (string_bytes c.push_comma.new.out) (string_bytes c.push_field.new.out)
    c.loop-place-test.true c.index-fields-place.is c.in_ok-own.ensures.comma c.in_ok-own.ensures.gap c.in_ok-push_field.ensures
    ∙ c.loop-place.invariant
