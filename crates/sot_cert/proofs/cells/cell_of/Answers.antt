-- What is left to show of `cell_of`.
use Rattle.std.proofs.Common.{arith}
use Rattle.sot_cert.proofs.cells.cell_of.Goals as goal

pub unreachable-requires : goal.unreachable-requires
unreachable-requires c = omega (arith, c.in_ok-put_sides.ensures.size, c.in-None.ensures, c.requires)
