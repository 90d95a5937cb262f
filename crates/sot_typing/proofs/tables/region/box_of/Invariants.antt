-- The loop of `box_of`: the sides so far.
use Rattle.std.proofs.Common.{◌≡◌, map, take}
use Rattle.sot_typing.specs.Resolved.{side_of}
use Rattle.sot_typing.proofs.tables.region.box_of.Given as goal

abbrev pub invariant-loop-b : goal.invariant-loop-b
invariant-loop-b l = l.intervals.items ≡ map side_of (take l.b-index l.sides)
