use Rattle.sot_summary.proofs.Inside.{none_outside}
use Rattle.sot_summary.proofs.laws.safe_flights_stay_inside.Goals as goal

pub returns : goal.returns
returns c = λ p jitter f entries rules safe inside flown. none_outside p rules jitter f safe inside entries flown
