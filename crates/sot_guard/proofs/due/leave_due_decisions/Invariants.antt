use Rattle.std.proofs.Common.{◌≡◌, ◌<◌, ◌↔◌, ℕ, true, false, length, slice_index_or}
use Rattle.sot_lists.specs.Places.{At}
use Rattle.sot_calendar.specs.Due.{IsDue}
use Rattle.sot_lang.specs.declared.tables.ModuleInfo.{ModuleInfo}
use Rattle.sot_guard.proofs.due.leave_due_decisions.Given as goal

-- exactly what is due before this one is left
abbrev pub invariant-loop-m : goal.invariant-loop-m
invariant-loop-m l = record {
  size : length l.left ≡ length l.modules;
  done : (k : ℕ) (x : ModuleInfo) → k < l.m → At l.modules k x → (slice_index_or l.left k false ≡ true) ↔ IsDue x.period x.offset l.time;
}
