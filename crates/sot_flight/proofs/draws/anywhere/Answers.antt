use Rattle.std.proofs.Common.{rules}
use Rattle.sot_flight.proofs.Drawn.{read_draw}
use Rattle.sot_flight.proofs.draws.anywhere.Goals as goal

pub returns : goal.returns
returns c = rw (c.from.ensures) (read_draw c.args.lo c.args.hi c.args.word (search rules) (search rules) c.requires)
