use Rattle.sot_certify.specs.Steps.{AreEntriesTo}
use Rattle.sot_certify.proofs.making.entries.Given as goal

abbrev pub invariant-loop-module : goal.invariant-loop-module
invariant-loop-module l = AreEntriesTo l.p l.found.items l.«module»
