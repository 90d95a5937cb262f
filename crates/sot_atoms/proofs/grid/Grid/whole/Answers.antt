use Rattle.std.proofs.Common.{arith}
use Rattle.sot_atoms.proofs.Axes.{axis_some}
use Rattle.sot_atoms.proofs.grid.Grid.whole.Goals as goal

pub all_of-requires : goal.all_of-requires
all_of-requires c = axis_some c.self.inside.width c.self.inside.last c.self.inside.axes c.self.invariant.cut 0 _ (omega arith)

pub all_of-requires-2 : goal.all_of-requires-2
all_of-requires-2 c = axis_some c.self.inside.width c.self.inside.last c.self.inside.axes c.self.invariant.cut 1 _ (omega arith)

pub all_of-requires-3 : goal.all_of-requires-3
all_of-requires-3 c = axis_some c.self.inside.width c.self.inside.last c.self.inside.axes c.self.invariant.cut 2 _ (omega arith)

pub all_of-requires-4 : goal.all_of-requires-4
all_of-requires-4 c = axis_some c.self.inside.width c.self.inside.last c.self.inside.axes c.self.invariant.cut 3 _ (omega arith)
