use Rattle.std.proofs.Common.{◌≡◌, ◌+◌, ◌-◌, ◌≤◌, ◌^◌, min, drop}
use Rattle.sot_workers.specs.Threads.{statements}
use Rattle.sot_workers.proofs.rule.+weigh.Given as goal

abbrev pub invariant-statements-loop-act : goal.invariant-statements-loop-act
invariant-statements-loop-act l = record {
  small : l.count ≤ 2 ^ 32 - 1;
  same : min (l.count + statements (drop l.act-index l.acts)) (2 ^ 32 - 1) ≡ min (statements l.acts) (2 ^ 32 - 1);
}
