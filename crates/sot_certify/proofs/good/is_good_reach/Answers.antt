use Rattle.sot_certify.proofs.Refused.{not_reach}
use Rattle.sot_certify.proofs.good.is_good_reach.Goals as goal

pub returns-in-Err : goal.returns-in-Err
returns-in-Err c = not_reach c.args.p.now c.args.«module» c.args.info.now c.args.cell.now _ c.requires.rules c.requires.is c.in-Err.ensures
