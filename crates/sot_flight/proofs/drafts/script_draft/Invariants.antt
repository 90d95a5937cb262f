use Rattle.std.proofs.Common.{◌≡◌, ◌-◌, ◌++◌, take}
use Rattle.std.specs.Prelude.{None, replicate}
use Rattle.sot_flight.proofs.drafts.script_draft.Given as goal

abbrev pub invariant-loop-i : goal.invariant-loop-i
invariant-loop-i l = l.draft ≡ take l.i l.row ++ replicate (8 - l.i) None
