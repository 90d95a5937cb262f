-- The loop of `add_noise`: the disturbances so far stand behind the others, and then those that are left.
use Rattle.std.proofs.Common.{◌≡◌, ◌++◌, drop, map}
use Rattle.sot_rules.specs.Names.{noise_thing}
use Rattle.sot_typing.specs.Things.{things_in}
use Rattle.sot_typing.proofs.names.gather.add_noise.Given as goal

abbrev pub invariant-loop-f : goal.invariant-loop-f
invariant-loop-f l = things_in l.things.items ++ map noise_thing (drop l.f-index l.noise) ≡ things_in l.fn.things.items ++ map noise_thing l.noise
