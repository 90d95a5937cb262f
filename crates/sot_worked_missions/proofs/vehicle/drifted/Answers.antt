-- Of `drifted`: its promises.
use Rattle.std.proofs.Common.{pos, subst}
use Rattle.sot_syntax_tree.specs.declared.operator.Op.TheVariants.{Add, Sub, Div}
use Rattle.sot_lang.specs.declared.term.Term.TheVariants.{Number, Place}
use Rattle.sot_worked_missions.specs.Parts.{IsBinary}
use Rattle.sot_worked_missions.proofs.vehicle.drifted.Goals as goal

pub returns : goal.returns
returns c =
    let sum = c.in_ok-sum.sum in
    let gap = c.in_ok-gap.gap in
    let share = c.in_ok-share.share in (
      sum,
      gap,
      share,
      subst (λ s. IsBinary Add (Place 0) (Place 1) s sum) c.span-inner.ensures c.in_ok-sum.ensures,
      subst (λ s. IsBinary Sub (Place 0) (Number (pos 5)) s gap) c.span-minus.ensures c.in_ok-gap.ensures,
      subst (λ s. IsBinary Div (Place 2) gap s share) c.span-by.ensures c.in_ok-share.ensures,
      subst (λ s. IsBinary Add sum share s c.in_ok-next.next) c.span-outer.ensures c.in_ok-next.ensures,
    )
