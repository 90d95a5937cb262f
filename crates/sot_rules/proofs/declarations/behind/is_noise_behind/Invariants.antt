-- The loop of `is_noise_behind`: what is left decides.
use Rattle.std.proofs.Common.{◌≡◌, drop}
use Rattle.sot_rules.specs.Behind.{noise_behind}
use Rattle.sot_rules.proofs.declarations.behind.is_noise_behind.Given as goal

abbrev pub invariant-loop-f : goal.invariant-loop-f
invariant-loop-f l = noise_behind l.from (drop l.f-index l.noise) ≡ noise_behind l.from l.noise
