use Rattle.sot_rta.specs.Refused.{refusal_view}
use Rattle.sot_bridge.specs.Sides.{side_of}
use Rattle.sot_bridge.proofs.Forms.{joins_first, judges_first, both_result, both_refused}
use Rattle.sot_bridge.proofs.flying.fly_both.Goals as goal

pub fly_checked-requires-clause-joins : goal.fly_checked-requires-clause-joins
fly_checked-requires-clause-joins g c κs within =
    let joins = c.requires.joins in
    let a = c.args.a.now in (
      joins.0,
      joins.1,
      joins_first c.in-Ok.first a.program.now a.cert.now a.flight.now c.in-Ok.ensures.answer.0 (side_of c.args.b.now)
          c.args.delay c.args.joint.from c.args.joint.to joins.0 joins.1 joins.2,
    )

pub returns-in-Ok : goal.returns-in-Ok
returns-in-Ok g c =
    let a = c.args.a.now in
    let b = side_of c.args.b.now in
    both_result (side_of a) b c.args.delay c.args.joint.from c.args.joint.to c.fly_checked.result c.in-Ok.ensures.answer.1 c.in-Ok.ensures.safe
    (judges_first c.in-Ok.first a.program.now a.cert.now a.flight.now c.in-Ok.ensures.answer.0 b c.args.delay c.args.joint.from c.args.joint.to
    c.fly_checked.result c.fly_checked.ensures)

pub returns-in-Err : goal.returns-in-Err
returns-in-Err g c =
    both_refused (side_of c.args.a.now) (side_of c.args.b.now) c.args.delay c.args.joint.from c.args.joint.to c.refused.result
    (refusal_view c.in-Err.refusal) c.in-Err.ensures.answer c.refused.ensures.status c.refused.ensures.text
