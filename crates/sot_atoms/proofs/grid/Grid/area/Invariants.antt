use Rattle.std.proofs.Common.{◌≡◌, ◌<◌, length, ℕ}
use Rattle.std.specs.Prelude.{slice_index_or}
use Rattle.sot_box.specs.Sides.{nought}
use Rattle.sot_atoms.specs.Grids.{AreNumbersOn}
use Rattle.sot_atoms.proofs.grid.Grid.area.Given as goal

abbrev pub invariant-loop-side : goal.invariant-loop-side
invariant-loop-side l = record {
  count : length l.sides ≡ 4;
  done : (j : ℕ) → j < l.side → AreNumbersOn l.self l.block j (slice_index_or l.sides j nought);
}
