use Rattle.sot_flight.proofs.Jumps.{jump_sum}
use Rattle.sot_flight.proofs.draws.Jump.«then».Goals as goal

pub invariant_of-result : goal.invariant_of-result
invariant_of-result c =
    let one = c.self.inside in
    let more = c.more.inside in
    jump_sum one.given more.given one.power more.power one.sum more.sum c.self.invariant c.more.invariant
