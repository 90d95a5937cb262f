use Rattle.std.proofs.Common.{◌≡◌, map, take}
use Rattle.serde_json.specs.View.{view}
use Rattle.sot_certified_text.specs.CertText.{cell_data}
use Rattle.sot_certified_text.proofs.value.cells_value.Given as goal

abbrev pub invariant-loop-i : goal.invariant-loop-i
invariant-loop-i l = map view l.values.items ≡ map cell_data (take l.i l.cells.boxes)
