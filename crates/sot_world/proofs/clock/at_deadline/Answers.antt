use Rattle.sot_world.proofs.Deadlines.{deadline_is, deadline_was}
use Rattle.sot_world.proofs.clock.at_deadline.Goals as goal

pub returns-then-t-jitter : goal.returns-then-t-jitter
returns-then-t-jitter c = (
  (λ t. deadline_is c.args.jitter c.args.period c.args.offset c.args.t c.requires.jitter c.requires.offset c.if-t-jitter.true (c.due.ensures.0 t)),
  (λ h. c.due.ensures.1 (deadline_was c.args.jitter c.args.period c.args.offset c.args.t h)),
)
