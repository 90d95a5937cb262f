use Rattle.std.proofs.Common.{ℕ, ◌≡◌, ◌<◌, ◌↔◌}
use Rattle.std.specs.Prelude.{slice_index_or}
use Rattle.sot_lists.specs.Places.{Has}
use Rattle.sot_recover.specs.Entered.{MayEnter}
use Rattle.sot_recover.proofs.growing.put_entering.Given as goal

abbrev pub invariant-loop-n : goal.invariant-loop-n
invariant-loop-n g l = (k : ℕ) → Has l.fresh.items k ↔ (((q : ℕ) × (q < l.n) × (slice_index_or l.near q 0 ≡ k)) × MayEnter (g.L.Landing.lands l.places) l.set k)
