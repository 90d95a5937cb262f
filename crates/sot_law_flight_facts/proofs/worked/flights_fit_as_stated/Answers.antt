use Rattle.std.proofs.Common.{refl}
use Rattle.sot_law_flight_facts.proofs.Fits as fit
use Rattle.sot_law_flight_facts.proofs.worked.flights_fit_as_stated.Goals as goal

pub returns : goal.returns
returns c = record {
  horizon = fit.horizon;
  inputs = fit.inputs;
  sways = fit.sways;
  crews = fit.crews;
  guests = fit.guests;
  counts = λ g. (refl, refl, refl, refl, refl);
}
