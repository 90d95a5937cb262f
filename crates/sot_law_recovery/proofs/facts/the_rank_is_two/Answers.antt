use Rattle.std.proofs.Common.{arith}
use Rattle.sot_law_recovery.proofs.StairRanks.{rank, rank_of, never_0, never_1}
use Rattle.sot_law_recovery.proofs.facts.the_rank_is_two.Goals as goal

pub returns : goal.returns
returns c = record {
  rank = rank;
  ground = λ g. rank_of g 0 (omega arith);
  first = λ g. rank_of g 1 (omega arith);
  first_not_less = λ g. never_0 g 1 (omega arith) (omega arith);
  second = λ g. rank_of g 2 (omega arith);
  second_not_less = never_1;
}
