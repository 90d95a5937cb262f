use Rattle.std.proofs.Common.{refl}
use Rattle.sot_lang.specs.Ticks.{next_state}
use Rattle.sot_lang.proofs.LineReach.{reach_of_the_line}
use Rattle.sot_lang.proofs.facts.ticks_are_as_stated.Goals as goal

pub returns-clause-line : goal.returns-clause-line
unfolding next_state
returns-clause-line c g = refl

pub returns-clause-names : goal.returns-clause-names
unfolding next_state
returns-clause-names c g = refl

pub returns-clause-old_state : goal.returns-clause-old_state
unfolding next_state
returns-clause-old_state c g = (refl, refl)

pub returns-clause-reach : goal.returns-clause-reach
returns-clause-reach c g = reach_of_the_line g
