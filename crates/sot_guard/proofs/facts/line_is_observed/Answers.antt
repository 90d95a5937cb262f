use Rattle.sot_guard.proofs.LineObserved.{at_3, not_at_4, told, new_ones}
use Rattle.sot_guard.proofs.facts.line_is_observed.Goals as goal

pub returns : goal.returns
returns c = record { at_3 = at_3; not_at_4 = not_at_4; told = told; commands = new_ones }
