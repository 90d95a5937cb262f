use Rattle.sot_flight.proofs.Fitting.{stated_within, stated_length}
use Rattle.sot_flight.proofs.laws.stated_noise_is_in_bounds.Goals as goal

pub returns-clause-each : goal.returns-clause-each
returns-clause-each c p guests f t k plant rules fits at = stated_within p guests f fits rules t k plant at

pub returns-clause-count : goal.returns-clause-count
returns-clause-count c p guests f t fits = stated_length p guests f fits t
