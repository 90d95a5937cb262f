use Rattle.std.proofs.Common.{ℕ, ◌≡◌, length}
use Rattle.sot_recover.specs.Sets.{IsSet}
use Rattle.sot_recover.proofs.collecting.no_flags.Given as goal

abbrev pub invariant-loop-i : goal.invariant-loop-i
invariant-loop-i l = (length l.flags.items ≡ l._i) × ((k : ℕ) → IsSet l.flags.items k → ⊥)
