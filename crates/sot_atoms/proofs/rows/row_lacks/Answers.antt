use Rattle.sot_atoms.proofs.FirstBytes.{row_without, row_with}
use Rattle.sot_atoms.proofs.rows.row_lacks.Goals as goal

pub returns-in-None : goal.returns-in-None
returns-in-None c = row_without c.args.byte c.args.bytes.now c.args.from c.args.to c.requires.order c.requires.there c.in-None.ensures

pub returns-in-Some : goal.returns-in-Some
returns-in-Some c =
    row_with c.args.byte c.args.bytes.now c.args.from c.args.to c.requires.order c.requires.there _ c.in-Some.ensures.0.high c.in-Some.ensures.1
