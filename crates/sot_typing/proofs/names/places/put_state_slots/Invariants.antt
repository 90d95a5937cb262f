-- The loop of `put_state_slots`: what stands, and then those that are left.
use Rattle.std.proofs.Common.{◌≡◌, ◌++◌, ◌+◌, ◌-◌, map}
use Rattle.sot_lang.specs.declared.tables.Slot.TheVariants.{State}
use Rattle.sot_typing.specs.Resolved.{counted_from}
use Rattle.sot_typing.proofs.names.places.put_state_slots.Given as goal

abbrev pub invariant-loop-i : goal.invariant-loop-i
invariant-loop-i l =
    l.slots.items ++ map (λ v. State l.plant v) (counted_from (0 + l.i) (l.count - l.i))
    ≡ l.initial.slots.items ++ map (λ v. State l.plant v) (counted_from 0 l.count)
