use Rattle.sot_law_runs.proofs.AnyLength.{one_event, two_events, any_time}
use Rattle.sot_law_runs.proofs.facts.every_run_has_any_length.Goals as goal

pub returns : goal.returns
returns c = record { one_event = one_event; two_events = two_events; any_time = any_time }
