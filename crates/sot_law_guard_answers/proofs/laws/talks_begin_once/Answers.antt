use Rattle.sot_law_guard_answers.proofs.Begun.{begun_once}
use Rattle.sot_law_guard_answers.proofs.laws.talks_begin_once.Goals as goal

pub returns : goal.returns
returns c = begun_once
