use Rattle.std.proofs.Common.{◌≡◌, length, map, take}
use Rattle.sot_lang.specs.Ticks.{joined}
use Rattle.sot_flight.specs.Stated.{noises}
use Rattle.sot_flight.specs.FlightView.{sway_of}
use Rattle.sot_flight.proofs.noise.put_all.Given as goal

abbrev pub invariant-loop-k : goal.invariant-loop-k
invariant-loop-k l = record {
  size : length l.numbers ≡ length l.initial.numbers;
  count : l.count ≡ length (joined (take l.k (noises l.p.plants (map sway_of l.sways) l.tick)));
  front : take l.count l.numbers ≡ joined (take l.k (noises l.p.plants (map sway_of l.sways) l.tick));
}
