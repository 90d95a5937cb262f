-- Of `moving_plant`: its promises.
use Rattle.std.proofs.Common.{sym, subst}
use Rattle.sot_worked_missions.specs.Line.{IsMove}
use Rattle.sot_worked_missions.proofs.LineRules.{pos_so}
use Rattle.sot_worked_missions.proofs.vehicle.moving_plant.Goals as goal

pub returns : goal.returns
returns c = pos_so _ IsMove c.in_ok-plant.plant (λ t e. subst IsMove (sym e) c.in_ok-next.ensures) c.in_ok-plant.ensures
