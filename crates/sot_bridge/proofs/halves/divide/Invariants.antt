use Rattle.std.proofs.Common.{◌≡◌, ◌≤◌, ◌-◌, length, take, drop}
use Rattle.std.specs.Option.{option_map}
use Rattle.sot_text.specs.LineEnds.{lines}
use Rattle.sot_bridge.specs.MissionHalves.{behind, halves_in, halves_of}
use Rattle.sot_bridge.proofs.halves.divide.Given as goal

abbrev pub invariant-loop-at : goal.invariant-loop-at
invariant-loop-at l = record {
  within : l.at ≤ length l.bytes;
  so_far : option_map (behind (take l.at l.bytes)) (halves_in (lines (drop l.at l.bytes))) ≡ halves_of l.bytes;
}

abbrev pub decreases-loop-at : goal.decreases-loop-at
decreases-loop-at l = length l.bytes - l.at
