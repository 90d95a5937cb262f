use Rattle.std.proofs.Common.{◌≡◌, ℕ, ◌<◌, ◌≤◌, ◌⊎◌, slice_index}
use Rattle.sot_atoms.proofs.rows.fill_row.Given as goal

abbrev pub invariant-loop-k : goal.invariant-loop-k
invariant-loop-k l = record {
  inside : (j : ℕ) → l.from ≤ j → j < l.k → slice_index l.bytes j ≡ l.byte;
  outside : (j : ℕ) → (j < l.from) ⊎ (l.k ≤ j) → slice_index l.bytes j ≡ slice_index l.initial.bytes j;
}
