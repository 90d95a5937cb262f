use Rattle.std.proofs.Common.{Some, ap}
use Rattle.sot_guard_protocol.proofs.put.put_told.Goals as goal

pub put_firing-requires : goal.put_firing-requires
put_firing-requires g c = c.requires 0 c.in-Fired.node c.in-Fired.firing (ap Some c.in-Fired.is)
