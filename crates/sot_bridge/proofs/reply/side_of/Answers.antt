use Rattle.sot_bridge.proofs.Sides.{has_flight}
use Rattle.sot_bridge.proofs.reply.side_of.Goals as goal

pub unreachable-requires : goal.unreachable-requires
unreachable-requires c = has_flight c.requires.0 c.args.loaded.now c.requires.1 c.in-None.is
