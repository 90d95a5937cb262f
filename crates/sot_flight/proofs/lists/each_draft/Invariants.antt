use Rattle.std.proofs.Common.{◌≡◌, [], map, drop}
use Rattle.serde_json.specs.View.{items_view}
use Rattle.sot_json.specs.Json.{each_after}
use Rattle.sot_flight.specs.ListForms.{draft}
use Rattle.sot_flight.proofs.lists.each_draft.Given as goal

abbrev pub invariant-loop-item : goal.invariant-loop-item
invariant-loop-item l =
    each_after (λ done. draft l.fn.size) (map (λ row. row.items) l.found.items) (items_view (drop l.item-index l.item-items))
    ≡ each_after (λ done. draft l.fn.size) [] (items_view l.list.items)
