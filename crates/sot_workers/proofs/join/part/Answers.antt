use Rattle.std.proofs.Common.{refl}
use Rattle.sot_workers.proofs.join.part.Goals as goal

pub returns-clause-list : goal.returns-clause-list
returns-clause-list g c = (record { node = c.args.shift.node; drafts = c.args.shift.drafts }, refl, refl, refl)
