use Rattle.std.proofs.Common.{arith}
use Rattle.sot_atoms.proofs.Longest.{longest_all}
use Rattle.sot_atoms.proofs.block.longest.Goals as goal

pub returns-clause-longest : goal.returns-clause-longest
returns-clause-longest c =
    longest_all c.args.block.now c.loop-k.axis c.loop-k.k c.side-side.result c.side-side.ensures.count
    (omega arith) c.loop-k.invariant c.side-side.ensures.there
