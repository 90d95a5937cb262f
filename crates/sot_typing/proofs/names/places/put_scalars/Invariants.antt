-- The loop of `put_scalars`: what stands, and then those that are left.
use Rattle.std.proofs.Common.{◌≡◌, ◌++◌, ◌+◌, ◌-◌}
use Rattle.sot_typing.specs.Resolved.{counted_from}
use Rattle.sot_typing.proofs.names.places.put_scalars.Given as goal

abbrev pub invariant-loop-i : goal.invariant-loop-i
invariant-loop-i l = l.scalars.items ++ counted_from (l.first + l.i) (l.count - l.i) ≡ l.initial.scalars.items ++ counted_from l.first l.count
