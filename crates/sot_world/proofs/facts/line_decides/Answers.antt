use Rattle.std.proofs.Common.{refl}
use Rattle.sot_world.proofs.LineSteps.{decides, decides_once}
use Rattle.sot_world.proofs.facts.line_decides.Goals as goal

pub returns : goal.returns
returns c = record {
  step = decides;
  recorded = λ g. refl;
  once = decides_once;
}
