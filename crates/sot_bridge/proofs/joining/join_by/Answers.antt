use Rattle.sot_bridge.specs.Sides.{side_of}
use Rattle.sot_bridge.proofs.Joined.{joined, lacking}
use Rattle.sot_bridge.proofs.joining.join_by.Goals as goal

pub returns-then-not-topics_match : goal.returns-then-not-topics_match
returns-then-not-topics_match c = λ from to named. (
  c.args.joint.from,
  c.args.joint.to,
  named,
  c.if-not-topics_match.ensures named.from_is.0 named.to_is.0 named.from_is.1 named.to_is.1,
)

pub returns-in-Ok : goal.returns-in-Ok
returns-in-Ok c = λ from to named.
    joined (side_of c.args.a.now) (side_of c.args.b.now) from to c.args.delay c.args.joint.from c.args.joint.to named
    (c.if-not-topics_match.ensures named.from_is.0 named.to_is.0 named.from_is.1 named.to_is.1)
    (c.in-Ok.ensures named.to_is.0 named.to_is.1)

pub returns-in-Err : goal.returns-in-Err
returns-in-Err c = λ from to named.
    lacking (side_of c.args.a.now) (side_of c.args.b.now) from to c.args.delay c.args.joint.from c.args.joint.to named
    (c.if-not-topics_match.ensures named.from_is.0 named.to_is.0 named.from_is.1 named.to_is.1)
    c.in-Err.fault (c.in-Err.ensures named.to_is.0 named.to_is.1)
