use Rattle.std.proofs.Common.{◌∙◌}
use Rattle.std.specs.String.{string_bytes}
use Rattle.sot_print.specs.Leaves.{constant_words}
use Rattle.sot_print.proofs.Lists.{comma_step_at}
use Rattle.sot_print.proofs.clause.push_constants.Goals as goal

pub loop-place-preserved : goal.loop-place-preserved
loop-place-preserved c =
    comma_step_at constant_words c.args.gap c.args.constants.now c.loop-place.place _ c.in_ok-own.own
    (string_bytes c.loop-place.out) (string_bytes c.push_comma.new.out) (string_bytes c.push_constant.new.out)
    c.loop-place-test.true c.in_ok-own.ensures.comma c.in_ok-own.ensures.gap c.in_ok-push_constant.ensures
    ∙ c.loop-place.invariant
