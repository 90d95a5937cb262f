use Rattle.std.proofs.Common.{◌≡◌, ◌-◌, ◌++◌, take, map}
use Rattle.std.specs.Prelude.{Some, None, replicate}
use Rattle.sot_bridge.specs.SendLaws.{value_of}
use Rattle.sot_bridge.proofs.history.value_in.Given as goal

abbrev pub invariant-loop-i : goal.invariant-loop-i
invariant-loop-i l = l.value ≡ take l.i (map Some (value_of l.p l.topic l.scene.scalars)) ++ replicate (8 - l.i) None
