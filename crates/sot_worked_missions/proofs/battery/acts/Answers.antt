-- Of `acts`: its promises.
use Rattle.std.proofs.Common.{◌∷◌, [], negsuc, ap, ◌∙◌}
use Rattle.sot_lang.specs.declared.act.Act.TheVariants.{Publish}
use Rattle.sot_lang.specs.declared.term.Term.TheVariants.{Number}
use Rattle.sot_worked_missions.proofs.battery.acts.Goals as goal

pub returns : goal.returns
returns c = c.in_ok-vec.ensures.items ∙ ap (λ s. Publish 0 (Number (negsuc 0)) s ∷ []) c.span.ensures
