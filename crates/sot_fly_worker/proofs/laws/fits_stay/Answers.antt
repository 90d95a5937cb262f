use Rattle.sot_fly_worker.proofs.Histories.{fits_stay}
use Rattle.sot_fly_worker.proofs.laws.fits_stay.Goals as goal

pub returns : goal.returns
returns c = fits_stay
