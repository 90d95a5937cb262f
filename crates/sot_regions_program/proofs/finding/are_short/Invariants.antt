use Rattle.std.proofs.Common.{ℕ, ◌<◌}
use Rattle.sot_lists.specs.Places.{At}
use Rattle.sot_box.specs.Sides.{Side}
use Rattle.sot_certified_text.specs.ReadBack.{IsShort}
use Rattle.sot_regions_program.proofs.finding.are_short.Given as goal

abbrev pub invariant-loop-i : goal.invariant-loop-i
invariant-loop-i l = (k : ℕ) (r : Side) → k < l.i → At l.b k r → IsShort r
