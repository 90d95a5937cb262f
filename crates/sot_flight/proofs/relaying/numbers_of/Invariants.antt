use Rattle.std.proofs.Common.{◌≡◌, ◌++◌, drop}
use Rattle.sot_flight.specs.Relayed.{drafted}
use Rattle.sot_flight.proofs.relaying.numbers_of.Given as goal

abbrev pub invariant-loop-i : goal.invariant-loop-i
invariant-loop-i l = l.found.items ++ drafted (drop l.i l.draft) ≡ drafted l.draft
