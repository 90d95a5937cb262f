use Rattle.std.proofs.Common.{refl}
use Rattle.sot_flight.specs.FlightFormat.{counted}
use Rattle.sot_law_flight_facts.proofs.worked.flights_count_up_to_their_limits.Goals as goal

pub returns-clause-most_events : goal.returns-clause-most_events
unfolding counted
returns-clause-most_events c g = refl

pub returns-clause-one_event_too_many : goal.returns-clause-one_event_too_many
unfolding counted
returns-clause-one_event_too_many c g = refl

pub returns-clause-most_numbers : goal.returns-clause-most_numbers
unfolding counted
returns-clause-most_numbers c g = refl

pub returns-clause-one_number_too_many : goal.returns-clause-one_number_too_many
unfolding counted
returns-clause-one_number_too_many c g = refl

pub returns-clause-fit_no_more : goal.returns-clause-fit_no_more
returns-clause-fit_no_more c p guests f fits = (fits.few_events, fits.few_numbers)
