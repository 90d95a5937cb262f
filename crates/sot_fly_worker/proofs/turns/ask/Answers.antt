use Rattle.sot_fly_worker.proofs.turns.ask.Goals as goal

pub returns : goal.returns
returns g c = c.decide.ensures.asked
