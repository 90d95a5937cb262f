-- Of `raised`: its promises.
use Rattle.std.proofs.Common.{pos, negsuc, subst}
use Rattle.sot_syntax_tree.specs.declared.operator.Op.TheVariants.{Less}
use Rattle.sot_lang.specs.declared.term.Term.TheVariants.{Number, Place}
use Rattle.sot_worked_missions.specs.Parts.{IsBinary, IsChoice}
use Rattle.sot_worked_missions.proofs.vehicle.raised.Goals as goal

pub returns : goal.returns
returns c =
    let below = c.in_ok-below.below in (
      below,
      subst (λ s. IsBinary Less (Place 0) (Number (negsuc 9)) s below) c.span-less.ensures c.in_ok-below.ensures,
      subst (λ s. IsChoice below (Number (pos 2)) (Number (pos 0)) s c.in_ok-value.value) c.span-inner.ensures c.in_ok-value.ensures,
    )
