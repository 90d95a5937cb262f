use Rattle.std.proofs.Common.{◌≡◌}
use Rattle.sot_turn.specs.Places.{IsSamePlace}
use Rattle.sot_turn.proofs.turn.seats.serve.Given as goal

-- the ticket was not served so far
abbrev pub invariant-loop : goal.invariant-loop
invariant-loop g l = IsSamePlace l.initial.place l.place × (l.place.me ≡ l.initial.place.me)
