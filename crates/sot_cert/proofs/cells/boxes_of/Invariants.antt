-- What the loop of `boxes_of` keeps.
use Rattle.std.proofs.Common.{◌≡◌, [], drop}
use Rattle.serde_json.specs.View.{items_view}
use Rattle.sot_json.specs.Json.{each_after}
use Rattle.sot_cert.specs.CertFormat.{cell}
use Rattle.sot_cert.proofs.cells.boxes_of.Given as goal

abbrev pub invariant-loop-item : goal.invariant-loop-item
invariant-loop-item l =
    (l.found.width ≡ l.width) × (each_after (λ done. cell l.width) l.found.boxes (items_view (drop l.item-index l.item-items))
    ≡ each_after (λ done. cell l.width) [] (items_view l.list.items))
