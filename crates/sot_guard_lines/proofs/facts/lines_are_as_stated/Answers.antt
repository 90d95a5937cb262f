use Rattle.std.proofs.Common.{refl}
use Rattle.sot_guard_lines.proofs.Resuming.{resumes_alone}
use Rattle.sot_guard_lines.proofs.facts.lines_are_as_stated.Goals as goal

pub returns-clause-hold : goal.returns-clause-hold
returns-clause-hold c g = (refl, refl, refl)

pub returns-clause-outside : goal.returns-clause-outside
returns-clause-outside c g = (refl, refl)

pub returns-clause-ready : goal.returns-clause-ready
returns-clause-ready c g = (refl, refl, refl, refl, refl, refl, refl)

pub returns-clause-outline : goal.returns-clause-outline
returns-clause-outline c g = refl

pub returns-clause-others : goal.returns-clause-others
returns-clause-others c = refl

pub returns-clause-resume : goal.returns-clause-resume
returns-clause-resume c p = resumes_alone p

pub returns-clause-resumed : goal.returns-clause-resumed
returns-clause-resumed c g = (refl, refl, refl)
