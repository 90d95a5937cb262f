use Rattle.std.proofs.Common.{◌≡◌, ◌++◌, map, take}
use Rattle.sot_lang.specs.Ranges.{range_of}
use Rattle.sot_iv.proofs.bounds.put_types.Given as goal

abbrev pub invariant-loop-i : goal.invariant-loop-i
invariant-loop-i l = l.sides ≡ l.initial.sides ++ map (range_of l.infos) (take l.i l.scalars)
