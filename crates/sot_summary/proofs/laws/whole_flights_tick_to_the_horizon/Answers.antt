use Rattle.sot_summary.proofs.Ticking.{horizon_ticks}
use Rattle.sot_summary.proofs.laws.whole_flights_tick_to_the_horizon.Goals as goal

pub returns : goal.returns
returns c = horizon_ticks
