use Rattle.sot_bridge.specs.Sides.{side_of}
use Rattle.sot_bridge.proofs.Forms.{joined_result, apart_result}
use Rattle.sot_bridge.proofs.reply.bridged.Goals as goal

pub join-requires-clause-horizon : goal.join-requires-clause-horizon
join-requires-clause-horizon g c = c.requires.a_fits.horizon

pub fly_both-requires-clause-joins : goal.fly_both-requires-clause-joins
fly_both-requires-clause-joins g c κs within = (c.args.ask.from.now, c.args.ask.to.now, c.in-Ok.ensures)

pub returns-in-Ok : goal.returns-in-Ok
returns-in-Ok g c =
    joined_result (side_of c.args.a.now) (side_of c.args.b.now) c.args.ask.from.now c.args.ask.to.now c.args.ask.delay c.fly_both.result
    c.in-Ok.joint.from c.in-Ok.joint.to c.in-Ok.ensures c.fly_both.ensures

pub returns-in-Err : goal.returns-in-Err
returns-in-Err g c =
    apart_result (side_of c.args.a.now) (side_of c.args.b.now) c.args.ask.from.now c.args.ask.to.now c.args.ask.delay c.fixed.result
    c.in-Err.fault c.kind_text.result.now c.in-Err.ensures c.kind_text.ensures c.fixed.ensures.status c.fixed.ensures.text
