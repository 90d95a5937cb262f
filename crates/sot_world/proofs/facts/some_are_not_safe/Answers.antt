use Rattle.sot_world.proofs.Unsafe.{outside, code_traps, tick_traps, unsafe_opening, unsafe_run}
use Rattle.sot_world.proofs.facts.some_are_not_safe.Goals as goal

pub returns : goal.returns
returns c = record { outside = outside; code = code_traps; tick = tick_traps; opening = unsafe_opening; run = unsafe_run }
