use Rattle.sot_flight.proofs.Fitting.{draft_size}
use Rattle.sot_flight.proofs.laws.stated_drafts_are_of_their_nodes.Goals as goal

pub returns : goal.returns
returns c p guests f n i node crew draft fits at is stated = draft_size p node crew i draft (fits.crewed n node crew at is) stated
