use Rattle.sot_law_runs.proofs.Jitter as jitter
use Rattle.sot_law_runs.proofs.facts.ticks_wait_for_deadlines.Goals as goal

pub returns : goal.returns
returns c = record {
  node = jitter.node;
  node_deadline = jitter.node_deadline;
  node_at_once = jitter.node_at_once;
  decision = jitter.decision;
  decision_deadline = jitter.decision_deadline;
  decision_at_once = jitter.decision_at_once;
  three = jitter.three;
  node_three = jitter.node_three;
  decision_three = jitter.decision_three;
}
