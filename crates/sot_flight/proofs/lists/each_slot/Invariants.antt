use Rattle.std.proofs.Common.{◌≡◌, [], drop}
use Rattle.serde_json.specs.View.{items_view}
use Rattle.sot_json.specs.Json.{each_after}
use Rattle.sot_flight.specs.ListForms.{slot}
use Rattle.sot_flight.proofs.lists.each_slot.Given as goal

abbrev pub invariant-loop-item : goal.invariant-loop-item
invariant-loop-item l =
    each_after (λ done. slot) l.found.items (items_view (drop l.item-index l.item-items)) ≡ each_after (λ done. slot) [] (items_view l.list.items)
