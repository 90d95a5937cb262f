-- Of `push`: its promises.
use Rattle.std.proofs.Common.{pos, negsuc, ap, subst}
use Rattle.sot_syntax_tree.specs.declared.operator.Op.TheVariants.{Greater, Sub}
use Rattle.sot_syntax_tree.specs.declared.operator.Func.TheVariants.{Clamp}
use Rattle.sot_lang.specs.declared.term.Term.{Call}
use Rattle.sot_lang.specs.declared.term.Term.TheVariants.{Number, Place}
use Rattle.sot_worked_missions.specs.Parts.{IsBinary, IsChoice}
use Rattle.sot_worked_missions.proofs.arm.push.Goals as goal

pub returns : goal.returns
returns c =
    let above = c.in_ok-above.above in
    let aim = c.in_ok-aim.aim in
    let gap = c.in_ok-gap.gap in record {
      above = above;
      aim = aim;
      gap = gap;
      parts = c.in_ok-vec.field-0;
      tests = subst (λ s. IsBinary Greater (Place 0) (Number (pos 0)) s above) c.span-greater.ensures c.in_ok-above.ensures;
      aims = subst (λ s. IsChoice above (Number (negsuc 1)) (Number (pos 2)) s aim) c.span-if_word.ensures c.in_ok-aim.ensures;
      gaps = subst (λ s. IsBinary Sub aim (Place 1) s gap) c.span-minus.ensures c.in_ok-gap.ensures;
      items = c.in_ok-vec.ensures.items;
      is = ap (λ s. Call Clamp c.in_ok-vec.field-0 s) c.span-clamp.ensures;
    }
