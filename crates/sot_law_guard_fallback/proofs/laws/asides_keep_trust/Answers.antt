use Rattle.sot_law_guard_fallback.proofs.Talks.{asides, asides_end_none}
use Rattle.sot_law_guard_fallback.proofs.laws.asides_keep_trust.Goals as goal

pub returns-clause-drafts_and_inputs : goal.returns-clause-drafts_and_inputs
returns-clause-drafts_and_inputs c = asides

pub returns-clause-resumes : goal.returns-clause-resumes
returns-clause-resumes c = asides_end_none
