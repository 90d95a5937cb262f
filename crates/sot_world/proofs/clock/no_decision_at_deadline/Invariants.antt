use Rattle.std.proofs.Common.{◌≡◌, ◌≢◌, ℕ, ◌+◌, ◌<◌, true, false, slice_index_or}
use Rattle.sot_lists.specs.Places.{At}
use Rattle.sot_calendar.specs.Due.{IsLastDue}
use Rattle.sot_lang.specs.declared.tables.ModuleInfo.{ModuleInfo}
use Rattle.sot_world.proofs.clock.no_decision_at_deadline.Given as goal

abbrev pub invariant-loop-m : goal.invariant-loop-m
invariant-loop-m l =
    (k : ℕ) (x : ModuleInfo) (d : ℕ) → k < l.m → At l.modules k x → slice_index_or l.left k false ≡ true → IsLastDue x.period x.offset l.time d
    → d + l.jitter ≢ l.time
