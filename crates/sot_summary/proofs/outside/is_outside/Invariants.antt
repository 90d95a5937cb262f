use Rattle.std.proofs.Common.{◌≡◌, drop}
use Rattle.sot_summary.specs.Outside.{is_outside}
use Rattle.sot_summary.proofs.outside.is_outside.Given as goal

-- some plant is outside exactly where one of those from this module on is
abbrev pub invariant-loop-m : goal.invariant-loop-m
invariant-loop-m l = record { left : is_outside (record l.p { modules = drop l.m l.p.modules }) l.states ≡ is_outside l.p l.states }
