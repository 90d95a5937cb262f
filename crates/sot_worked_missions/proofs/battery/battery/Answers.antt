-- Of `battery`: its promises.
use Rattle.std.proofs.Common.{pos, subst}
use Rattle.sot_syntax_tree.specs.declared.operator.Op.TheVariants.{Greater}
use Rattle.sot_lang.specs.declared.term.Term.TheVariants.{Number, Place}
use Rattle.sot_worked_missions.specs.Parts.{IsBinary, IsChoice}
use Rattle.sot_worked_missions.proofs.battery.battery.Goals as goal

pub returns : goal.returns
returns c =
    let flies = c.in_ok-flies.flies in
    let drained = c.in_ok-drained.drained in record {
      flies = flies;
      drained = drained;
      tests = subst (λ s. IsBinary Greater (Place 0) (Number (pos 0)) s flies) c.span-greater.ensures c.in_ok-flies.ensures;
      drains = c.in_ok-drained.ensures;
      is = subst (λ s. IsChoice flies drained (Place 1) s c.in_ok-value.value) c.span-outer.ensures c.in_ok-value.ensures;
    }
