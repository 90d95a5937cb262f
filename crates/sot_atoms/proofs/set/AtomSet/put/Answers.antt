use Rattle.sot_atoms.proofs.Members.{put_by}
use Rattle.sot_atoms.proofs.set.AtomSet.put.Goals as goal

pub returns-clause-put : goal.returns-clause-put
returns-clause-put c fit =
    put_by c.args.grid.now.axes c.args.self.now c.write.new.self c.args.block.now fit.in_axes (c.write.ensures.written fit)
