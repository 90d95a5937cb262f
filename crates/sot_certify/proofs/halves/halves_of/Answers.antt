use Rattle.sot_certify.proofs.Widest.{widest_is, no_wider}
use Rattle.sot_certify.proofs.halves.halves_of.Goals as goal

pub returns-then-is_single : goal.returns-then-is_single
returns-then-is_single c =
    no_wider c.args.cell.now c.widest-axis.result c.side-side.result c.widest-axis.ensures.ordered
    (widest_is c.args.cell.now c.widest-axis.result c.side-side.result c.side-side.ensures c.widest-axis.ensures.widest) c.if-is_single.ensures

pub cut-requires-clause-widest : goal.cut-requires-clause-widest
cut-requires-clause-widest c = widest_is c.args.cell.now c.widest-axis.result c.side-side.result c.side-side.ensures c.widest-axis.ensures.widest
