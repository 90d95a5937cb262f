use Rattle.sot_law_guard_fallback.proofs.Talks.{lasts, no_other_line}
use Rattle.sot_law_guard_fallback.proofs.laws.distrust_lasts_until_a_resume.Goals as goal

pub returns-clause-talk : goal.returns-clause-talk
returns-clause-talk c = lasts

pub returns-clause-line : goal.returns-clause-line
returns-clause-line c = no_other_line
