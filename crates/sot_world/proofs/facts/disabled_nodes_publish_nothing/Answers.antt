use Rattle.sot_world.proofs.LineSteps.{idle, idle_recorded, advanced_idle, advanced_recorded, brakes, counts}
use Rattle.sot_world.proofs.facts.disabled_nodes_publish_nothing.Goals as goal

pub returns : goal.returns
returns c = record {
  safe_node = idle;
  recorded = idle_recorded;
  advanced_node = advanced_idle;
  recorded_guest = advanced_recorded;
  enabled = brakes;
  locals = counts;
}
