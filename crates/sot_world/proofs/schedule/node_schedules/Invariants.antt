use Rattle.std.proofs.Common.{◌≡◌, map, take}
use Rattle.sot_world.specs.Schedules.{first}
use Rattle.sot_world.proofs.schedule.node_schedules.Given as goal

abbrev pub invariant-loop-info : goal.invariant-loop-info
invariant-loop-info l = l.schedules.items ≡ map (λ k. first k.period k.offset) (take l.info-index l.nodes)
