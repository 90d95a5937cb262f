use Rattle.std.proofs.Common.{◌≡◌, length}
use Rattle.sot_regions_program.specs.Findings.{AreBoxesFor}
use Rattle.sot_regions_program.proofs.finding.region_of.Given as goal

abbrev pub invariant-loop-i : goal.invariant-loop-i
invariant-loop-i l = (l.region.width ≡ l.width) × (length l.region.boxes ≡ l.i) × AreBoxesFor l.width l.region.boxes
