use Rattle.std.proofs.Common.{rules}
use Rattle.serde_json.specs.View.{view}
use Rattle.sot_flight.specs.Fits.{FitsFlight}
use Rattle.sot_flight.specs.FlightFormat.{flight}
use Rattle.sot_flight.proofs.FlightFits.{flight_fits, if_gives}
use Rattle.sot_flight.proofs.reading.flight_in.Goals as goal

pub returns-clause-says : goal.returns-clause-says
unfolding flight
returns-clause-says c = search rules

pub returns-clause-fits : goal.returns-clause-fits
returns-clause-fits c =
    let p = c.args.p.now in
    let d = view c.args.value.now in
    if_gives (FitsFlight p c.args.guests) c.counted_flight.result (flight p c.args.guests d) (returns-clause-says c)
    (flight_fits p c.counted_flight.ensures.rules c.args.guests d)
