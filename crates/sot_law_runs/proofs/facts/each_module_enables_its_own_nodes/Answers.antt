use Rattle.sot_law_runs.proofs.OwnNodes as own
use Rattle.sot_law_runs.proofs.facts.each_module_enables_its_own_nodes.Goals as goal

pub returns : goal.returns
returns c = record {
  advanced = own.advanced;
  advanced_disabled = own.advanced_disabled;
  safe = own.safe;
  safe_disabled = own.safe_disabled;
  second_advanced = own.second_advanced;
  second_advanced_disabled = own.second_advanced_disabled;
  second_safe = own.second_safe;
  second_safe_disabled = own.second_safe_disabled;
}
