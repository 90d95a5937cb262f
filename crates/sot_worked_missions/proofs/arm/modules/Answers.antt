-- Of `modules`: its promises.
use Rattle.std.proofs.Common.{◌∷◌, [], ap, ap₂, ◌∙◌, to_z-of_z}
use Rattle.sot_worked_missions.specs.Double.{stops}
use Rattle.sot_worked_missions.proofs.arm.modules.Goals as goal

pub returns : goal.returns
returns c = c.in_ok-vec.ensures.items ∙ ap (λ m. m ∷ []) (c.in_ok-nav.ensures ∙ ap₂ stops (to_z-of_z c.ranges.low) (to_z-of_z c.ranges.high))
