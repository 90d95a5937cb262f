-- Of `modules`: its promises.
use Rattle.std.proofs.Common.{◌∷◌, [], ap, ◌∙◌, to_z-of_z}
use Rattle.sot_worked_missions.specs.Line.{nav}
use Rattle.sot_worked_missions.specs.Pair.{fly}
use Rattle.sot_worked_missions.proofs.battery.modules.Goals as goal

pub returns : goal.returns
returns c =
    c.in_ok-vec.ensures.items ∙ ap (λ m. m ∷ c.in_ok-fly.fly ∷ []) c.in_ok-nav.ensures
    ∙ ap (λ m. nav ∷ m ∷ []) (c.in_ok-fly.ensures ∙ ap fly (to_z-of_z c.ranges.low))
