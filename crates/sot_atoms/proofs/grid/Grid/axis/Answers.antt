use Rattle.std.proofs.Common.{ap, subst, ◌<◌, pos}
use Rattle.std.specs.Prelude.{slice_index_or}
use Rattle.sot_lists.specs.Places.{At}
use Rattle.sot_atoms.specs.declared.axis.Axis.{Axis}
use Rattle.sot_atoms.specs.Grids.{Cut, IsGridAxis}
use Rattle.sot_atoms.proofs.Axes.{axis_there, axis_cut, axis_side, axis_grid}
use Rattle.sot_atoms.proofs.grid.Grid.axis.Goals as goal

abbrev none : Axis
none = record { side = 0; lo = pos 0; hi = pos 0; shift = 0; size = 0 }

pub returns-clause-there : goal.returns-clause-there
returns-clause-there c =
    let axes = ap (λ (r : Cut). r.axes) c.self.view_is in
    subst (λ xs. At xs c.args.k (slice_index_or c.self.inside.axes c.args.k none)) axes
    (axis_there c.self.inside.width c.self.inside.last c.self.inside.axes c.self.invariant.cut c.args.k none c.requires)

pub returns-clause-cut : goal.returns-clause-cut
returns-clause-cut c = axis_cut c.self.inside.width c.self.inside.last c.self.inside.axes c.self.invariant.cut c.args.k _ c.requires

pub returns-clause-side : goal.returns-clause-side
returns-clause-side c =
    let width = ap (λ (r : Cut). r.width) c.self.view_is in
    subst (λ n. (slice_index_or c.self.inside.axes c.args.k none).side < n) width
    (axis_side c.self.inside.width c.self.inside.last c.self.inside.axes c.self.invariant.cut c.args.k none c.requires)

pub returns-clause-axis : goal.returns-clause-axis
returns-clause-axis c =
    let width = ap (λ (r : Cut). r.width) c.self.view_is in
    let last = ap (λ (r : Cut). r.last) c.self.view_is in
    let x = slice_index_or c.self.inside.axes c.args.k none in
    subst (λ n. IsGridAxis n c.args.self.now.last c.args.k x) width
    (subst (λ n. IsGridAxis c.self.inside.width n c.args.k x) last
    (axis_grid c.self.inside.width c.self.inside.last c.self.inside.axes c.self.invariant.cut c.args.k none c.requires))
