-- Of `height`: its promises.
use Rattle.std.proofs.Common.{ap, subst}
use Rattle.sot_syntax_tree.specs.declared.operator.Op.TheVariants.{Add}
use Rattle.sot_syntax_tree.specs.declared.operator.Func.TheVariants.{Clamp}
use Rattle.sot_lang.specs.declared.term.Term.{Call}
use Rattle.sot_lang.specs.declared.term.Term.TheVariants.{Place}
use Rattle.sot_worked_missions.specs.Parts.{IsBinary}
use Rattle.sot_worked_missions.proofs.battery.height.Goals as goal

pub returns : goal.returns
returns c =
    let sum = c.in_ok-sum.sum in record {
      sum = sum;
      parts = c.in_ok-vec.field-0;
      adds = subst (λ s. IsBinary Add (Place 0) (Place 2) s sum) c.span-plus.ensures c.in_ok-sum.ensures;
      items = c.in_ok-vec.ensures.items;
      is = ap (λ s. Call Clamp c.in_ok-vec.field-0 s) c.span-clamp.ensures;
    }
