use Rattle.std.proofs.Common.{◌≡◌, ◌+◌, ◌≤◌, length}
use Rattle.std.specs.Prelude.{vec_len, vec_capacity}
use Rattle.sot_guard.specs.InstantParts.{HasDecided}
use Rattle.sot_guard.proofs.instant.decide_all.Given as goal

-- the modules so far have decided
abbrev pub invariant-loop-module : goal.invariant-loop-module
invariant-loop-module l = record {
  decided : HasDecided l.fn.guard l.guard l.fn.told.items l.told.items l.«module»;
  accepted : l.guard.accepted ≡ l.fn.guard.accepted;
  trusted : l.guard.trusted ≡ l.fn.guard.trusted;
  len : vec_len l.told ≤ vec_len l.fn.told + l.«module»;
  room : vec_capacity l.fn.told ≤ vec_capacity l.told;
  count : l.count ≡ length l.fn.guard.accepted.program.modules;
}
