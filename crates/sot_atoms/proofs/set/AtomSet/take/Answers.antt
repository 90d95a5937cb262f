use Rattle.sot_atoms.proofs.Members.{taken_by}
use Rattle.sot_atoms.proofs.set.AtomSet.take.Goals as goal

pub returns-clause-taken : goal.returns-clause-taken
returns-clause-taken c fit =
    taken_by c.args.grid.now.axes c.args.self.now c.write.new.self c.args.block.now fit.in_axes (c.write.ensures.written fit)
