use Rattle.sot_regions.specs.Searches.{AreWidePoints}
use Rattle.sot_regions.proofs.closing.close.Given as goal

abbrev pub invariant-loop-place : goal.invariant-loop-place
invariant-loop-place l = AreWidePoints l.search.grid.now.width l.points
