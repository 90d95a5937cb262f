use Rattle.sot_world.proofs.Main.{openings_keep_invariant, steps_keep_invariant}
use Rattle.sot_world.proofs.laws.steps_keep_the_invariant.Goals as goal

pub returns : goal.returns
returns c = record {
  opening = openings_keep_invariant;
  step = steps_keep_invariant;
}
