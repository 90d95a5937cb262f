use Rattle.std.proofs.Common.{◌≡◌, ◌++◌, take}
use Rattle.sot_iv.proofs.ranges.Ranges.extend.Given as goal

abbrev pub invariant-loop-side : goal.invariant-loop-side
invariant-loop-side l = l.self ≡ l.initial.self ++ take l.side-index l.sides
