use Rattle.std.proofs.Common.{◌≡◌, ◌<◌, ℕ, None, replicate, slice_index_or}
use Rattle.sot_guard.proofs.blank.clear_drafts.Given as goal

abbrev pub invariant-loop-n : goal.invariant-loop-n
invariant-loop-n l = (j : ℕ) → j < l.n → slice_index_or l.drafts j (replicate 8 None) ≡ replicate 8 None
