-- Of `broken_tables_are_refused`: its promises.
use Rattle.sot_worked_missions.proofs.BrokenRules.{own_read, name_twice, itself_seen, decimals, values, period, sides, turned}
use Rattle.sot_worked_missions.proofs.facts.broken_tables_are_refused.Goals as goal

pub returns : goal.returns
returns c = record {
  own_read = own_read;
  name_twice = name_twice;
  itself_seen = itself_seen;
  decimals = decimals;
  values = values;
  period = period;
  sides = sides;
  turned = turned;
}
