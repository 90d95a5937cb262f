use Rattle.std.proofs.Common.{◌≡◌, ℕ, ◌<◌, [], drop, length, slice_index_or}
use Rattle.sot_world.specs.Events.{cut, noise_count}
use Rattle.sot_world.specs.Changes.{IsMoved}
use Rattle.sot_world.proofs.tick.move_all.Given as goal

-- the plants before this one have moved, and the rest of the disturbances is for those from here on
abbrev pub invariant-loop-k : goal.invariant-loop-k
invariant-loop-k l = record {
  size : length l.next ≡ length l.p.plants;
  room : length l.numbers ≡ 80;
  count : length l.rest ≡ noise_count (drop l.k l.p.plants);
  parts : drop l.k (cut l.p.plants l.noise) ≡ cut (drop l.k l.p.plants) l.rest;
  moved : (j : ℕ) → j < l.k → IsMoved l.p j l.scalars l.points (slice_index_or (cut l.p.plants l.noise) j []) (slice_index_or l.next j []);
}
