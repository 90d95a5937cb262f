use Rattle.sot_world.proofs.LineSteps.{ticks, ticks_again, not_yet, no_decision, out_of_bounds, no_plant, one_plant}
use Rattle.sot_world.proofs.facts.line_ticks.Goals as goal

pub returns : goal.returns
returns c = record {
  step = ticks;
  due = ticks_again;
  not_yet = not_yet;
  no_decision = no_decision;
  out_of_bounds = out_of_bounds;
  no_plant = no_plant;
  one_plant = one_plant;
}
