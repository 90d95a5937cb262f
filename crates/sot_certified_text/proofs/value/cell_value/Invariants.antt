use Rattle.std.proofs.Common.{◌≡◌, map, take}
use Rattle.serde_json.specs.View.{view}
use Rattle.sot_certified_text.specs.CertText.{side_data}
use Rattle.sot_certified_text.proofs.value.cell_value.Given as goal

abbrev pub invariant-loop-i : goal.invariant-loop-i
invariant-loop-i l = map view l.sides.items ≡ map side_data (take l.i l.cell)
