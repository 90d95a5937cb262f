use Rattle.std.proofs.Common.{refl}
use Rattle.sot_lang.specs.Bodies.{execution}
use Rattle.sot_lang.proofs.facts.firings_are_as_stated.Goals as goal

pub returns-clause-later_drafts : goal.returns-clause-later_drafts
unfolding execution
returns-clause-later_drafts c g = refl

pub returns-clause-assignments : goal.returns-clause-assignments
unfolding execution
returns-clause-assignments c g = refl

pub returns-clause-outside : goal.returns-clause-outside
unfolding execution
returns-clause-outside c g = (refl, refl, refl, refl)

pub returns-clause-first_trap : goal.returns-clause-first_trap
unfolding execution
returns-clause-first_trap c g = (refl, refl)

pub returns-clause-blocks : goal.returns-clause-blocks
unfolding execution Rattle.sot_lang.specs.declared.act.Act.TheBlock.hidden-the_row-Act-0 denote.Hole.Carrier.hidden
returns-clause-blocks c g = (refl, refl, refl, refl)

pub returns-clause-slow : goal.returns-clause-slow
unfolding execution
returns-clause-slow c g = (refl, refl, refl, refl, refl)
