-- Of `returned`: its promises.
use Rattle.std.proofs.Common.{pos, negsuc, subst}
use Rattle.sot_syntax_tree.specs.declared.operator.Op.TheVariants.{Greater}
use Rattle.sot_lang.specs.declared.term.Term.TheVariants.{Number, Place}
use Rattle.sot_worked_missions.specs.Parts.{IsBinary, IsChoice}
use Rattle.sot_worked_missions.proofs.vehicle.returned.Goals as goal

pub returns : goal.returns
returns c =
    let above = c.in_ok-above.above in
    let rest = c.in_ok-rest.rest in
    let low = c.in_ok-rest.ensures in (
      above,
      low.0,
      rest,
      subst (λ s. IsBinary Greater (Place 0) (Number (pos 10)) s above) c.span-greater.ensures c.in_ok-above.ensures,
      low.1,
      low.2,
      subst (λ s. IsChoice above (Number (negsuc 1)) rest s c.in_ok-value.value) c.span-outer.ensures c.in_ok-value.ensures,
    )
