-- Of `pair`: that what it makes obeys the rule of its type, and its promises.
use Rattle.std.proofs.Common.{◌∷◌, [], ap, ◌∙◌, to_z-of_z}
use Rattle.sot_worked_missions.specs.Line.{nav}
use Rattle.sot_worked_missions.specs.Pair.{fly}
use Rattle.sot_worked_missions.proofs.PairRules.{pair_meets_rules}
use Rattle.sot_worked_missions.proofs.battery.pair.Goals as goal

pub invariant_of-result : goal.invariant_of-result
invariant_of-result c = pair_meets_rules c.args.low c.requires _ (record {
  topics = c.in_ok-topics.ensures;
  scalars = c.in_ok-scalars.ensures;
  vehicle = c.in_ok-plants.ensures.0;
  cell = c.in_ok-plants.ensures.1;
  is_pos = c.in_ok-plants.ensures.2;
  is_cell = c.in_ok-plants.ensures.3;
  plants = c.in_ok-plants.ensures.4;
  fast = c.in_ok-nodes.ensures.0;
  slow = c.in_ok-nodes.ensures.1;
  up = c.in_ok-nodes.ensures.2;
  down = c.in_ok-nodes.ensures.3;
  is_fast = c.in_ok-nodes.ensures.4;
  is_slow = c.in_ok-nodes.ensures.5;
  is_up = c.in_ok-nodes.ensures.6;
  is_down = c.in_ok-nodes.ensures.7;
  nodes = c.in_ok-nodes.ensures.8;
  modules = c.in_ok-modules.ensures ∙ ap (λ m. nav ∷ m ∷ []) (ap fly (to_z-of_z c.ranges.low));
})

pub returns : goal.returns
returns c = record {
  topics = c.in_ok-topics.ensures;
  scalars = c.in_ok-scalars.ensures;
  vehicle = c.in_ok-plants.ensures.0;
  cell = c.in_ok-plants.ensures.1;
  is_pos = c.in_ok-plants.ensures.2;
  is_cell = c.in_ok-plants.ensures.3;
  plants = c.in_ok-plants.ensures.4;
  fast = c.in_ok-nodes.ensures.0;
  slow = c.in_ok-nodes.ensures.1;
  up = c.in_ok-nodes.ensures.2;
  down = c.in_ok-nodes.ensures.3;
  is_fast = c.in_ok-nodes.ensures.4;
  is_slow = c.in_ok-nodes.ensures.5;
  is_up = c.in_ok-nodes.ensures.6;
  is_down = c.in_ok-nodes.ensures.7;
  nodes = c.in_ok-nodes.ensures.8;
  modules = c.in_ok-modules.ensures ∙ ap (λ m. nav ∷ m ∷ []) (ap fly (to_z-of_z c.ranges.low));
}
