use Rattle.std.proofs.Common.{◌≡◌, ◌*◌, ◌^◌, pos, ◌+ℤ◌, ◌≤ℤ◌, drop}
use Rattle.sot_summary.specs.Counted.{total}
use Rattle.sot_summary.proofs.sum.total.Given as goal

-- what is added up, and then what is left
abbrev pub invariant-loop-i : goal.invariant-loop-i
invariant-loop-i l = record {
  sum : l.sum +ℤ total (drop l.i l.numbers) ≡ total l.numbers;
  low : pos 0 ≤ℤ (l.sum +ℤ pos (2 ^ 63 * l.i));
  high : l.sum ≤ℤ pos (2 ^ 63 * l.i);
}
