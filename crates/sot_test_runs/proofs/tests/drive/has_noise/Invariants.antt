use Rattle.std.proofs.Common.{◌≡◌, drop, length}
use Rattle.sot_world.specs.Events.{noise_count}
use Rattle.sot_test_runs.proofs.tests.drive.has_noise.Given as goal

-- the list is as long as it should be where its rest is
abbrev pub invariant-loop-plant : goal.invariant-loop-plant
invariant-loop-plant l = length l.rest ≡ noise_count (drop l.plant-index l.plants) → length l.noise ≡ noise_count l.plants
