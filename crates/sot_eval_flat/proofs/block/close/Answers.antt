use Rattle.std.proofs.Common.{◌∙◌, ap, subst}
use Rattle.sot_eval_flat.specs.Flows.{FlowAll}
use Rattle.sot_eval_flat.specs.Carries.{FlowOpen}
use Rattle.sot_eval_flat.proofs.Carrying.{closed}
use Rattle.sot_eval_flat.proofs.block.close.Goals as goal

pub returns : goal.returns
returns c = (
  ap (λ v. v.items) c.swap.ensures.y_after ∙ c.new-whole.ensures.items,
  λ s t flow.
      subst (λ v. FlowOpen c.args.steps.now.items v.items s t) c.swap.ensures.x_after
      (closed c.args.steps.now.items c.swap.new.x s t (subst (λ l. FlowAll l s t) c.in_ok-push.ensures.items flow)),
)
