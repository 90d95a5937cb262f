use Rattle.std.proofs.Common.{◌≡◌, take}
use Rattle.sot_box.specs.Index.{entries_from}
use Rattle.sot_box.proofs.index.entries_of.Given as goal

abbrev pub invariant-loop-i : goal.invariant-loop-i
invariant-loop-i l = l.entries.items ≡ take l.i (entries_from 0 l.boxes)
