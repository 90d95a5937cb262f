use Rattle.std.proofs.Common.{◌≡◌, ◌-◌, length, take, drop, replicate}
use Rattle.sot_iv.specs.declared.drafted.Drafted.TheVariants.{Absent}
use Rattle.sot_iv.proofs.drafted.IvDraft.from_slice.Given as goal

abbrev pub invariant-loop-i : goal.invariant-loop-i
invariant-loop-i l = record {
  eight : length l.slots ≡ 8;
  taken : take l.i l.slots ≡ take l.i l.draft;
  rest : drop l.i l.slots ≡ replicate (8 - l.i) Absent;
}
