use Rattle.sot_law_guests.proofs.Drafts as drafts
use Rattle.sot_law_guests.proofs.laws.askings_give_drafts.Goals as goal

pub returns : goal.returns
returns c = record { one = drafts.fits_give_drafts; all = drafts.askings_give_drafts; same = drafts.one_list_of_drafts }
