use Rattle.std.proofs.Common.{◌≡◌, ◌+◌, ◌≤◌, subst}
use Rattle.sot_atoms.specs.Grids.{Cut, IsCut, side_at}
use Rattle.sot_atoms.proofs.Boxes.{grain_on}
use Rattle.sot_atoms.proofs.grid.Grid.grain.Goals as goal

pub returns : goal.returns
returns c =
    let grid = c.args.self.now in
    let k = c.axis_of-k.result in
    grain_on grid (subst (λ (g : Cut). IsCut g.width g.last g.axes) c.self.view_is c.self.invariant.cut) k c.axis.result c.args.side c.grain.result
    (subst (λ (g : Cut). 4 ≤ k + g.width) c.self.view_is c.axis_of-k.ensures.first) c.axis.ensures.there
    (subst (λ (g : Cut). side_at g.width g.last k ≡ c.args.side) c.self.view_is c.axis_of-k.ensures.value) c.grain.ensures
