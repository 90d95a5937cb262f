-- Of `double`: that what it makes obeys the rule of its type, and its promises.
use Rattle.std.proofs.Common.{◌∷◌, [], ap, ap₂, ◌∙◌, to_z-of_z}
use Rattle.sot_worked_missions.specs.Double.{stops}
use Rattle.sot_worked_missions.proofs.DoubleRules.{double_meets_rules}
use Rattle.sot_worked_missions.proofs.arm.double.Goals as goal

pub invariant_of-result : goal.invariant_of-result
invariant_of-result c = double_meets_rules c.args.low c.args.high c.requires _ (record {
  topics = c.in_ok-topics.ensures;
  scalars = c.in_ok-scalars.ensures;
  arm = c.in_ok-plants.ensures.0;
  is_arm = c.in_ok-plants.ensures.1;
  plants = c.in_ok-plants.ensures.2;
  fast = c.in_ok-nodes.ensures.0;
  slow = c.in_ok-nodes.ensures.1;
  is_fast = c.in_ok-nodes.ensures.2;
  is_slow = c.in_ok-nodes.ensures.3;
  nodes = c.in_ok-nodes.ensures.4;
  modules = c.in_ok-modules.ensures ∙ ap (λ m. m ∷ []) (ap₂ stops (to_z-of_z c.ranges.low) (to_z-of_z c.ranges.high));
})

pub returns : goal.returns
returns c = record {
  topics = c.in_ok-topics.ensures;
  scalars = c.in_ok-scalars.ensures;
  arm = c.in_ok-plants.ensures.0;
  is_arm = c.in_ok-plants.ensures.1;
  plants = c.in_ok-plants.ensures.2;
  fast = c.in_ok-nodes.ensures.0;
  slow = c.in_ok-nodes.ensures.1;
  is_fast = c.in_ok-nodes.ensures.2;
  is_slow = c.in_ok-nodes.ensures.3;
  nodes = c.in_ok-nodes.ensures.4;
  modules = c.in_ok-modules.ensures ∙ ap (λ m. m ∷ []) (ap₂ stops (to_z-of_z c.ranges.low) (to_z-of_z c.ranges.high));
}
