use Rattle.sot_traps.proofs.SafeReadings.{never_traps}
use Rattle.sot_traps.proofs.facts.trap_free_nodes_never_trap.Goals as goal

pub returns : goal.returns
returns c = never_traps
