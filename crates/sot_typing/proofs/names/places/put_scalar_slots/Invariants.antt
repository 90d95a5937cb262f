-- The loop of `put_scalar_slots`: what stands, and then those that are left.
use Rattle.std.proofs.Common.{◌≡◌, ◌++◌, ◌+◌, ◌-◌, map}
use Rattle.sot_lang.specs.declared.tables.Slot.TheVariants.{Scalar}
use Rattle.sot_typing.specs.Resolved.{counted_from}
use Rattle.sot_typing.proofs.names.places.put_scalar_slots.Given as goal

abbrev pub invariant-loop-i : goal.invariant-loop-i
invariant-loop-i l =
    l.slots.items ++ map (λ k. Scalar k) (counted_from (l.first + l.i) (l.count - l.i))
    ≡ l.initial.slots.items ++ map (λ k. Scalar k) (counted_from l.first l.count)
