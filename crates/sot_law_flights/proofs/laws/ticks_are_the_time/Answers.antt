use Rattle.sot_law_flights.proofs.Told.{whole_ticks, flown_ticks}
use Rattle.sot_law_flights.proofs.laws.ticks_are_the_time.Goals as goal

pub returns : goal.returns
returns c = λ p jitter f entries. (whole_ticks p jitter f entries, flown_ticks p jitter f entries)
