use Rattle.std.proofs.Common.{refl}
use Rattle.rand_pcg.specs.Lcg.{state_after}
use Rattle.sot_random_words.proofs.Words.{words_more}
use Rattle.sot_random_words.proofs.laws.words_follow.Goals as goal

pub returns-clause-start : goal.returns-clause-start
unfolding state_after
returns-clause-start c = λ seed stream. refl

pub returns-clause-next : goal.returns-clause-next
returns-clause-next c = words_more
