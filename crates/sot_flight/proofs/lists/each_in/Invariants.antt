use Rattle.std.proofs.Common.{◌≡◌, [], length, drop}
use Rattle.serde_json.specs.View.{items_view}
use Rattle.sot_json.specs.Json.{each_after}
use Rattle.sot_flight.specs.ListForms.{number_at}
use Rattle.sot_flight.proofs.lists.each_in.Given as goal

abbrev pub invariant-loop-i : goal.invariant-loop-i
invariant-loop-i l = record {
  count : length l.found.items ≡ l.i;
  rest : each_after (number_at l.fn.ranges) l.found.items (items_view (drop l.i l.list.items))
      ≡ each_after (number_at l.fn.ranges) [] (items_view l.list.items);
}
