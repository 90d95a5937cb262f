use Rattle.sot_workers.proofs.OwnTurns.{flown_end}
use Rattle.sot_workers.proofs.watch.work_in_turn.Goals as goal

pub work_on-requires : goal.work_on-requires
work_on-requires g c = record { lists = c.compare.ensures c.requires.lists.0 c.requires.lists.1 c.requires.lists.2; room = c.requires.room }

pub returns-clause-finished : goal.returns-clause-finished
returns-clause-finished g c = λ yes. flown_end c.work_on.new.board c.reveal_invariant.ensures (c.finished.ensures.0 yes)
