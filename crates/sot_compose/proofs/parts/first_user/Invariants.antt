use Rattle.sot_compose.specs.Parts.{IsUnused}
use Rattle.sot_compose.proofs.parts.first_user.Given as goal

abbrev pub invariant-loop-module : goal.invariant-loop-module
invariant-loop-module l = IsUnused l.part l.modules l.place l.from l.«module»
