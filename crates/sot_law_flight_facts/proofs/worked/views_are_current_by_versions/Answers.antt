use Rattle.sot_law_flight_facts.proofs.Views as view
use Rattle.sot_law_flight_facts.proofs.worked.views_are_current_by_versions.Goals as goal

pub returns : goal.returns
returns c = record {
  there = view.there;
  input_came = view.input_came;
  taken_after = view.taken_after;
  other_topic = view.other_topic;
  earlier_time = view.earlier_time;
  changed_back = view.changed_back;
}
