use Rattle.std.proofs.Common.{arith, ◌-◌, inr, ap, ◌∙◌, subst}
use Rattle.sot_lang.specs.Tables.{Tables}
use Rattle.sot_compose.specs.Outputs.{ArePartnersIn}
use Rattle.sot_compose.proofs.ordered.is_apart.Goals as goal

pub returns : goal.returns
returns c e = inr (
  omega (arith, c.if-topic-behind.false),
  omega (arith, c.if-node-eq0.false),
  subst (λ l. ArePartnersIn l (c.args.node - 1) c.args.node) (c.deref.ensures.value ∙ ap (λ (t : Tables). t.modules) c.p.view_is) (c.are_partners.ensures.0 e),
)
