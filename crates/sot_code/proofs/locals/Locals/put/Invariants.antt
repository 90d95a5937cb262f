use Rattle.std.proofs.Common.{◌≡◌, length, take, drop}
use Rattle.sot_code.proofs.locals.Locals.put.Given as goal

abbrev pub invariant-loop-i : goal.invariant-loop-i
invariant-loop-i l = record {
  sixteen : length l.slots ≡ 16;
  taken : take l.i l.slots ≡ take l.i l.at;
  rest : drop (length l.at) l.slots ≡ drop (length l.at) l.initial.slots;
}
