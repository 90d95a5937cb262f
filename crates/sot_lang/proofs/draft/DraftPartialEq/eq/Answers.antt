use Rattle.sot_lang.proofs.DraftSlots.{same_slots}
use Rattle.sot_lang.proofs.draft.DraftPartialEq.eq.Goals as goal

pub returns : goal.returns
returns c = search (same_slots, c.eq.ensures, c.and_eq.ensures)
