-- Of `line`: what its calls ask for, and its promises.
use Rattle.std.proofs.Common.{refl, sym, subst}
use Rattle.sot_worked_missions.specs.Line.{IsMove}
use Rattle.sot_worked_missions.proofs.LineRules.{ticks_so}
use Rattle.sot_worked_missions.proofs.LineTerms.{move_fits}
use Rattle.sot_worked_missions.proofs.vehicle.line.Goals as goal

pub tables-requires : goal.tables-requires
tables-requires c = move_fits _ c.in_ok-next.next refl c.in_ok-next.ensures

pub returns : goal.returns
returns c = ticks_so _ IsMove c.in_ok-tables.tables (λ t e. subst IsMove (sym e) c.in_ok-next.ensures) c.in_ok-tables.ensures
