use Rattle.std.proofs.Common.{◌≡◌, false, take, length}
use Rattle.sot_eval_flat.specs.Instructions.{Runs}
use Rattle.sot_eval_flat.proofs.compute.run_line.Given as goal

abbrev pub invariant-loop-one : goal.invariant-loop-one
invariant-loop-one l = record {
  first : l.trapped ≡ false → l.initial.trapped ≡ false;
  runs : l.trapped ≡ false → Runs (take l.one-index l.line) l.initial.room l.room;
  size : length l.room ≡ 256;
}
