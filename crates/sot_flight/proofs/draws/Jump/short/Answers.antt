use Rattle.std.proofs.Common.{◌%◌, ◌/◌, arith}
use Rattle.sot_flight.proofs.Jumps.{ones_listed, more_listed, most_listed}
use Rattle.sot_flight.proofs.draws.Jump.short.Goals as goal

pub listed-requires-clause-stands : goal.listed-requires-clause-stands
listed-requires-clause-stands c = ones_listed (c.args.given % 16) (omega arith)

pub listed-requires-2-clause-stands : goal.listed-requires-2-clause-stands
listed-requires-2-clause-stands c = more_listed (c.args.given / 16 % 16) (omega arith)

pub listed-requires-3-clause-stands : goal.listed-requires-3-clause-stands
listed-requires-3-clause-stands c = most_listed (c.args.given / 256) (omega (arith, c.requires))
