use Rattle.std.proofs.Common.{◌≡◌, ◌-◌, pos, length, take, drop, replicate}
use Rattle.sot_code.proofs.locals.Locals.from_slice.Given as goal

abbrev pub invariant-loop-i : goal.invariant-loop-i
invariant-loop-i l = record {
  sixteen : length l.inline ≡ 16;
  taken : take l.i l.inline ≡ take l.i l.at;
  rest : drop l.i l.inline ≡ replicate (16 - l.i) (pos 0);
}
