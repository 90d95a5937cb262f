-- Of `tables`: that what it makes obeys the rule of its type, and its promises.
use Rattle.std.proofs.Common.{◌≡◌}
use Rattle.sot_worked_missions.proofs.LineRules.{line_meets_rules}
use Rattle.sot_worked_missions.proofs.Short.{fits_as}
use Rattle.sot_worked_missions.proofs.vehicle.tables.Goals as goal

pub invariant_of-result : goal.invariant_of-result
invariant_of-result c = line_meets_rules (λ t. t ≡ c.args.next) (fits_as _ c.args.next c.requires) _ (record {
  topics = c.in_ok-topics.ensures;
  scalars = c.in_ok-scalars.ensures;
  plants = c.in_ok-plants.ensures;
  nodes = c.in_ok-nodes.ensures;
  modules = c.in_ok-modules.ensures;
})

pub returns : goal.returns
returns c = record {
  topics = c.in_ok-topics.ensures;
  scalars = c.in_ok-scalars.ensures;
  plants = c.in_ok-plants.ensures;
  nodes = c.in_ok-nodes.ensures;
  modules = c.in_ok-modules.ensures;
}
