use Rattle.sot_atoms.proofs.Longest.{all_single}
use Rattle.sot_atoms.proofs.block.halves_of.Goals as goal

pub returns-then-side : goal.returns-then-side
returns-then-side c =
    all_single c.args.block.now c.longest-found.result.axis c.longest-found.result.side c.longest-found.ensures.longest c.if-side.true
