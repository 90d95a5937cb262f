use Rattle.sot_law_runs.proofs.SpringHolds.{two_firings, a_tick_after, no_tick_after, one_firing_is_one}
use Rattle.sot_law_runs.proofs.recovery_facts.whole_holds_are_counted.Goals as goal

pub returns : goal.returns
returns c = record { between = two_firings; present = a_tick_after; begun = no_tick_after; one = one_firing_is_one }
