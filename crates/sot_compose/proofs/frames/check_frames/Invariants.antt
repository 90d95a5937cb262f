use Rattle.sot_rta.specs.Refused.{PassBefore}
use Rattle.sot_compose.specs.Frames.{frame}
use Rattle.sot_compose.proofs.frames.check_frames.Given as goal

abbrev pub invariant-loop-module : goal.invariant-loop-module
invariant-loop-module l = PassBefore l.p.modules (frame l.looked l.p) l.«module»
