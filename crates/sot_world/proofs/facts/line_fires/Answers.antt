use Rattle.std.proofs.Common.{refl}
use Rattle.sot_world.proofs.LineSteps.{takes_2, refuses_7, blank, fires_once, no_fewer, no_more, no_code, no_guest}
use Rattle.sot_world.proofs.facts.line_fires.Goals as goal

pub returns : goal.returns
returns c = record {
  takes_2 = takes_2;
  refuses_7 = refuses_7;
  blank = blank;
  recorded = λ g. refl;
  marks_7 = λ g. refl;
  leaves_2 = λ g. refl;
  once = fires_once;
  no_fewer = no_fewer;
  no_more = no_more;
  no_code = no_code;
  no_guest = no_guest;
}
