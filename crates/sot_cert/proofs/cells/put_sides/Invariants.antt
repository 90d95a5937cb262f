-- What the loop of `put_sides` keeps.
use Rattle.std.proofs.Common.{◌≡◌, [], take, drop, length}
use Rattle.serde_json.specs.View.{items_view}
use Rattle.sot_json.specs.Json.{each_after}
use Rattle.sot_cert.specs.CertFormat.{side}
use Rattle.sot_cert.proofs.cells.put_sides.Given as goal

abbrev pub invariant-loop-i : goal.invariant-loop-i
invariant-loop-i l = record {
  size : length l.sides ≡ length l.initial.sides;
  read : each_after (λ done. side) (take l.i l.sides) (items_view (drop l.i l.list)) ≡ each_after (λ done. side) [] (items_view l.list);
}
