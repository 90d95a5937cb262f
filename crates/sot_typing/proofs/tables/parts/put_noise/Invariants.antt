-- The loop of `put_noise`: what stands, and then the rows of the disturbances that are left.
use Rattle.std.proofs.Common.{◌≡◌, ◌++◌, map, drop}
use Rattle.sot_typing.specs.Resolved.{noise_info}
use Rattle.sot_typing.proofs.tables.parts.put_noise.Given as goal

abbrev pub invariant-loop-f : goal.invariant-loop-f
invariant-loop-f l = l.infos.items ++ map noise_info (drop l.f-index l.noise) ≡ l.initial.infos.items ++ map noise_info l.noise
