-- Of `drifting_line`: what its calls ask for, and its promises.
use Rattle.std.proofs.Common.{refl, sym, subst}
use Rattle.sot_worked_missions.specs.Line.{IsDrift}
use Rattle.sot_worked_missions.proofs.LineRules.{ticks_so}
use Rattle.sot_worked_missions.proofs.LineTerms.{drift_fits}
use Rattle.sot_worked_missions.proofs.vehicle.drifting_line.Goals as goal

pub tables-requires : goal.tables-requires
tables-requires c = drift_fits _ c.in_ok-next.next refl c.in_ok-next.ensures

pub returns : goal.returns
returns c = ticks_so _ IsDrift c.in_ok-tables.tables (λ t e. subst IsDrift (sym e) c.in_ok-next.ensures) c.in_ok-tables.ensures
