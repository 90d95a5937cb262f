use Rattle.sot_world.proofs.RelaySteps.{input_5, copy_5, no_other, no_10, no_more, no_fewer}
use Rattle.sot_world.proofs.facts.relay_takes_inputs.Goals as goal

pub returns : goal.returns
returns c = record {
  step = input_5;
  copied = copy_5;
  no_other = no_other;
  no_10 = no_10;
  no_more = no_more;
  no_fewer = no_fewer;
}
