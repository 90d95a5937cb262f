use Rattle.std.proofs.Common.{◌≡◌, ◌↔◌, ◌⊎◌, ℕ, ◌<◌, ◌≤◌, true, false, length, map, take, slice_get, slice_index_or}
use Rattle.sot_lists.specs.Places.{At}
use Rattle.sot_world.specs.declared.schedule.Schedule.{Schedule}
use Rattle.sot_world.specs.Schedules.{after}
use Rattle.sot_world.proofs.schedule.leave.Given as goal

-- what stands before this place has had its turn, and the rest is as it was
abbrev pub invariant-loop-k : goal.invariant-loop-k
invariant-loop-k l = record {
  size : length l.left ≡ length l.schedules;
  done : take l.k l.schedules ≡ map (after l.time) (take l.k l.initial.schedules);
  to_come : (j : ℕ) → l.k ≤ j → slice_get l.schedules j ≡ slice_get l.initial.schedules j;
  before : (j : ℕ) → j < l.k → (s : Schedule) → At l.initial.schedules j s
      → (slice_index_or l.left j false ≡ true) ↔ ((slice_index_or l.initial.left j false ≡ true) ⊎ (s.next ≡ l.time));
  behind : (j : ℕ) → l.k ≤ j → slice_index_or l.left j false ≡ slice_index_or l.initial.left j false;
}
