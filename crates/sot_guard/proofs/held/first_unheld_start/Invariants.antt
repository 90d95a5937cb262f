use Rattle.std.proofs.Common.{◌<◌, ℕ, true, map}
use Rattle.sot_guard.specs.HeldParts.{AnswersAt}
use Rattle.sot_guard.proofs.held.first_unheld_start.Given as goal

-- the modules before this one are held
abbrev pub invariant-loop-module : goal.invariant-loop-module
invariant-loop-module l = (k : ℕ) → k < l.«module» → AnswersAt l.p l.jitter l.time (map (λ i. i.init) l.p.scalars) l.points k true
