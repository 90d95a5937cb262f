use Rattle.std.proofs.Common.{refl, inl, inr}
use Rattle.sot_guard_program.proofs.tell.tell_put.Goals as goal

pub returns-in-Ok-clause-put : goal.returns-in-Ok-clause-put
returns-in-Ok-clause-put g c = λ held faults text put. (let all = c.in-Ok.ensures.ends held faults text put in inl (refl, all.0, all.1))

pub returns-in-Err-clause-put : goal.returns-in-Err-clause-put
returns-in-Err-clause-put g c = λ held faults text put. (let part = c.in-Err.ensures.ends held faults text put in inr (refl, part.0, part.1))
