use Rattle.sot_regions.specs.Searches.{AreWidePoints}
use Rattle.sot_regions.proofs.closing.close_atom.Given as goal

abbrev pub invariant-loop-area : goal.invariant-loop-area
invariant-loop-area l = AreWidePoints l.search.grid.now.width l.points
