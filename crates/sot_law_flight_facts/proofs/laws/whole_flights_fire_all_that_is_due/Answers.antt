use Rattle.sot_law_flight_facts.proofs.Firings.{so_far, whole}
use Rattle.sot_law_flight_facts.proofs.laws.whole_flights_fire_all_that_is_due.Goals as goal

pub returns : goal.returns
returns c = record { so_far = so_far; whole = whole }
