use Rattle.std.proofs.Common.{◌≡◌, ◌++◌, map, take, pos, slice_index_or}
use Rattle.sot_box.specs.Boxes.{point_box}
use Rattle.sot_guard.proofs.held.put_first_commands.Given as goal

abbrev pub invariant-loop-i : goal.invariant-loop-i
invariant-loop-i l =
    l.sides ≡ l.initial.sides ++ point_box (map (λ k. slice_index_or (map (λ i. i.init) l.scalars) k (pos 0)) (take l.i l.inputs))
