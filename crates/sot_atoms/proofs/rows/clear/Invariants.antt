use Rattle.std.proofs.Common.{◌≡◌, ℕ, ◌⊎◌, slice_index}
use Rattle.sot_atoms.proofs.rows.clear.Given as goal

abbrev pub invariant-loop-k : goal.invariant-loop-k
invariant-loop-k l = (j : ℕ) → (slice_index l.bytes j ≡ slice_index l.initial.bytes j) ⊎ (slice_index l.bytes j ≡ 0)
