use Rattle.sot_world.proofs.LineSteps.{opens, safer, one_point, one_number}
use Rattle.sot_world.proofs.facts.line_opens.Goals as goal

pub returns : goal.returns
returns c = record {
  opening = opens;
  safer = safer;
  one_point = one_point;
  one_number = one_number;
}
