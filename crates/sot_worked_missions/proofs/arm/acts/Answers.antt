-- Of `acts`: its promises.
use Rattle.std.proofs.Common.{◌∷◌, [], ap, ◌∙◌}
use Rattle.sot_lang.specs.declared.act.Act.TheVariants.{Publish}
use Rattle.sot_worked_missions.proofs.arm.acts.Goals as goal

pub returns : goal.returns
returns c = (c.in_ok-value.value, c.in_ok-value.ensures, c.in_ok-vec.ensures.items ∙ ap (λ s. Publish 0 c.in_ok-value.value s ∷ []) c.span.ensures)
