use Rattle.sot_world.proofs.KeptDrafts.{ReadSoFar}
use Rattle.sot_world.proofs.drafted.draft_at.Given as goal

abbrev pub invariant-loop-i : goal.invariant-loop-i
invariant-loop-i l = ReadSoFar l.there l.numbers l.from l.i l.left l.at l.draft
