use Rattle.sot_law_flights.proofs.Told.{whole_inputs, flown_inputs}
use Rattle.sot_law_flights.proofs.laws.inputs_are_the_flights.Goals as goal

pub returns : goal.returns
returns c = λ p jitter f entries. (whole_inputs p jitter f entries, flown_inputs p jitter f entries)
