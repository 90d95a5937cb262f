use Rattle.sot_recovery_text.specs.Steps.{TellsSoFar}
use Rattle.sot_recovery_text.proofs.lines.put_recovery.Given as goal

-- the modules before have their lines
abbrev pub invariant-loop-module : goal.invariant-loop-module
invariant-loop-module l = TellsSoFar l.acc.program l.acc.cert l.module l.text.items l.within.items
