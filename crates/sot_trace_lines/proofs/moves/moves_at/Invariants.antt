use Rattle.std.proofs.Common.{◌≡◌, true, drop}
use Rattle.sot_trace_lines.specs.Readers.{moves_at}
use Rattle.sot_trace_lines.specs.Kept.{kept_noise}
use Rattle.sot_trace_lines.proofs.moves.moves_at.Given as goal

abbrev pub invariant-loop-plant : goal.invariant-loop-plant
invariant-loop-plant l =
    kept_noise (l.numbers.items, l.whole) (moves_at (drop l.plant-index l.plants) l.rest) ≡ kept_noise (l.fn.numbers.items, true) (moves_at l.plants l.text)
