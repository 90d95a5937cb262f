use Rattle.std.proofs.Common.{◌≡◌, ◌-◌, false, length}
use Rattle.sot_guard_input.specs.Waiting.{Comes, has_end}
use Rattle.sot_guard_input.proofs.room.Room.fill.Given as goal

-- bytes came, and no line end among them
abbrev pub invariant-loop-self : goal.invariant-loop-self
invariant-loop-self g l =
    let left = g.S.Source.left in
    let faults = g.S.Source.faults in
    record {
      comes : Comes (left l.fn.source) (left l.source) l.fn.self l.self;
      open_ : has_end l.self ≡ false;
      well : faults l.source ≡ faults l.fn.source;
    }

abbrev pub decreases-loop-self : goal.decreases-loop-self
decreases-loop-self g l = 65536 - length l.self
