use Rattle.std.proofs.Common.{◌≡◌, ◌<◌, ◌≤◌, ◌*◌, ◌+◌, ◌-◌, length}
use Rattle.sot_recover.specs.Blocks.{AreHullsOf}
use Rattle.sot_recover.proofs.index.hulls_of.Given as goal

abbrev pub invariant-loop-from : goal.invariant-loop-from
invariant-loop-from l = record {
  inside : l.from ≤ length l.boxes;
  passed : l.from ≤ length l.hulls.items * 64;
  block : l.from < length l.boxes → l.from ≡ length l.hulls.items * 64;
  few : length l.hulls.items * 64 ≤ l.from + 63;
  around : AreHullsOf l.boxes l.hulls.items;
}

abbrev pub decreases-loop-from : goal.decreases-loop-from
decreases-loop-from l = length l.boxes - l.from
