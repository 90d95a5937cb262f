use Rattle.std.proofs.Common.{◌∙◌}
use Rattle.std.specs.String.{string_bytes}
use Rattle.sot_print.specs.Canonical.{state_words}
use Rattle.sot_print.proofs.Lists.{comma_step}
use Rattle.sot_print.proofs.clause.push_states.Goals as goal

pub loop-place-preserved : goal.loop-place-preserved
loop-place-preserved c =
    comma_step state_words c.args.gap c.args.states.now c.loop-place.place c.index-states-place.result c.in_ok-own.own
    (string_bytes c.loop-place.out) (string_bytes c.push_comma.new.out) (string_bytes c.push_state.new.out)
    c.loop-place-test.true c.index-states-place.is c.in_ok-own.ensures.comma c.in_ok-own.ensures.gap c.in_ok-push_state.ensures
    ∙ c.loop-place.invariant
