use Rattle.std.proofs.Common.{ℕ, ◌<◌}
use Rattle.sot_lists.specs.Places.{At}
use Rattle.sot_flight.specs.Plans.{Guest}
use Rattle.sot_workers.proofs.seat.node_of.Given as goal

-- none of the nodes so far is the guest's
abbrev pub invariant-loop-i : goal.invariant-loop-i
invariant-loop-i l = (n : ℕ) → n < l.i → At l.flight.crews n (Guest l.number) → ⊥
