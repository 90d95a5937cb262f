use Rattle.std.proofs.Common.{◌≡◌, drop}
use Rattle.sot_world.specs.Steps.{allowed_by}
use Rattle.sot_guard.proofs.enabled.is_enabled.Given as goal

-- the modules before this one allow the node
abbrev pub invariant-loop-m : goal.invariant-loop-m
invariant-loop-m l = allowed_by l.modules l.modes l.node ≡ allowed_by (drop l.m l.modules) (drop l.m l.modes) l.node
