use Rattle.std.proofs.Common.{ℕ, ◌<◌}
use Rattle.sot_compose.specs.Parts.{IsOfOneModule}
use Rattle.sot_compose.proofs.parts.first_shared.Given as goal

abbrev pub invariant-loop-place : goal.invariant-loop-place
invariant-loop-place l = (x : ℕ) → x < l.place → IsOfOneModule l.part l.modules x
