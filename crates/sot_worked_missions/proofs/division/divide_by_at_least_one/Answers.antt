-- Of `divide_by_at_least_one`: what its calls ask for, and its promises.
use Rattle.std.proofs.Common.{refl, sym, subst}
use Rattle.sot_worked_missions.specs.Divide.{IsAtLeastOne}
use Rattle.sot_worked_missions.proofs.DivideRules.{at_least_one_fits, divides_so}
use Rattle.sot_worked_missions.proofs.division.divide_by_at_least_one.Goals as goal

pub tables-requires : goal.tables-requires
tables-requires c = at_least_one_fits _ c.in_ok-divisor.divisor refl c.in_ok-divisor.ensures

pub returns : goal.returns
returns c = divides_so _ IsAtLeastOne c.in_ok-tables.tables (λ t e. subst IsAtLeastOne (sym e) c.in_ok-divisor.ensures) c.in_ok-tables.ensures
