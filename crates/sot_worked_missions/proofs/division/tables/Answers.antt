-- Of `tables`: that what it makes obeys the rule of its type, and its promises.
use Rattle.std.proofs.Common.{◌≡◌}
use Rattle.sot_worked_missions.proofs.DivideRules.{divide_meets_rules}
use Rattle.sot_worked_missions.proofs.Short.{fits_as}
use Rattle.sot_worked_missions.proofs.division.tables.Goals as goal

pub invariant_of-result : goal.invariant_of-result
invariant_of-result c = divide_meets_rules (λ d. d ≡ c.args.divisor) (fits_as _ c.args.divisor c.requires) _ (record {
  topics = c.in_ok-topics.ensures;
  scalars = c.in_ok-scalars.ensures;
  plants = c.new.ensures.items;
  nodes = (c.in_ok-calc.calc, c.in_ok-calc.ensures, c.in_ok-nodes.ensures.items);
  modules = c.new-2.ensures.items;
})

pub returns : goal.returns
returns c = record {
  topics = c.in_ok-topics.ensures;
  scalars = c.in_ok-scalars.ensures;
  plants = c.new.ensures.items;
  nodes = (c.in_ok-calc.calc, c.in_ok-calc.ensures, c.in_ok-nodes.ensures.items);
  modules = c.new-2.ensures.items;
}
