use Rattle.sot_law_runs.proofs.EachModule as each
use Rattle.sot_law_runs.proofs.facts.each_module_is_to_be_safe.Goals as goal

pub returns : goal.returns
returns c = record {
  inside = each.inside;
  second_outside = each.second_outside;
  first_outside = each.first_outside;
  second_body = each.second_body;
  second_tick = each.second_tick;
  safer = each.safer;
  second_not_safer = each.second_not_safer;
  first_not_safer = each.first_not_safer;
}
