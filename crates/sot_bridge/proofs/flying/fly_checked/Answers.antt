use Rattle.sot_rta.specs.Refused.{refusal_view}
use Rattle.sot_bridge.specs.Sides.{side_of, side_with}
use Rattle.sot_bridge.proofs.Forms.{joins_second, judges_second, second_result, second_refused}
use Rattle.sot_bridge.proofs.flying.fly_checked.Goals as goal

pub fly_accepted-requires-clause-joins : goal.fly_accepted-requires-clause-joins
fly_accepted-requires-clause-joins g c κs within =
    let joins = c.requires.joins in
    let b = c.args.b.now in (
      joins.0,
      joins.1,
      joins_second c.in-Ok.second b.program.now b.cert.now b.flight.now c.in-Ok.ensures.answer.0 (side_with c.args.a.now c.args.a_flight.now)
          c.args.delay c.args.joint.from c.args.joint.to joins.0 joins.1 joins.2,
    )

pub returns-in-Ok : goal.returns-in-Ok
returns-in-Ok g c =
    let b = c.args.b.now in
    let a = side_with c.args.a.now c.args.a_flight.now in
    second_result a (side_of b) c.args.delay c.args.joint.from c.args.joint.to c.fly_accepted.result c.in-Ok.ensures.answer.1 c.in-Ok.ensures.safe
    (judges_second c.in-Ok.second b.program.now b.cert.now b.flight.now c.in-Ok.ensures.answer.0 a c.args.delay c.args.joint.from c.args.joint.to
    c.fly_accepted.result c.fly_accepted.ensures)

pub returns-in-Err : goal.returns-in-Err
returns-in-Err g c =
    second_refused (side_with c.args.a.now c.args.a_flight.now) (side_of c.args.b.now) c.args.delay c.args.joint.from c.args.joint.to c.refused.result
    (refusal_view c.in-Err.refusal) c.in-Err.ensures.answer c.refused.ensures.status c.refused.ensures.text
