use Rattle.std.proofs.Common.{◌≡◌, ◌+◌, ◌*◌, ◌≤◌, ◌^◌, map, drop}
use Rattle.sot_flight.specs.Counts.{input_numbers}
use Rattle.sot_flight.specs.FlightView.{input_of}
use Rattle.sot_flight.proofs.counts.values_of.Given as goal

abbrev pub invariant-loop-input : goal.invariant-loop-input
invariant-loop-input l = record {
  small : l.sum ≤ 2 ^ 64 * l.input-index;
  rest : l.sum + input_numbers (map input_of (drop l.input-index l.inputs.items)) ≡ input_numbers (map input_of l.inputs.items);
}
