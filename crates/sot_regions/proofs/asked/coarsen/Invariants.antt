use Rattle.std.proofs.Common.{◌≡◌}
use Rattle.sot_invariant_atoms.specs.Asking.{asked_width}
use Rattle.sot_regions.specs.Searches.{IsBest}
use Rattle.sot_regions.proofs.asked.coarsen.Given as goal

abbrev pub invariant-loop-times : goal.invariant-loop-times
invariant-loop-times l = record {
  best : IsBest (asked_width l.ask) l.best;
  grains : l.best.grains ≡ l.times;
}
