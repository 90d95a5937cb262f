use Rattle.sot_atoms.proofs.grid.Grid.stretch.Goals as goal

pub returns : goal.returns
returns c = (c.axis-axis.result, c.side.result, c.axis-axis.ensures.there, c.side.ensures, c.stretch_on.ensures)
