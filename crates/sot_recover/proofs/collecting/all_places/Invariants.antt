use Rattle.std.proofs.Common.{ℕ, ◌<◌}
use Rattle.sot_lists.specs.Places.{Has}
use Rattle.sot_recover.proofs.collecting.all_places.Given as goal

abbrev pub invariant-loop-i : goal.invariant-loop-i
invariant-loop-i l = (k : ℕ) → k < l.i → Has l.places.items k
