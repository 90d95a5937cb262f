-- Of `drain`: its promises.
use Rattle.std.proofs.Common.{pos, subst}
use Rattle.sot_syntax_tree.specs.declared.operator.Op.TheVariants.{Sub}
use Rattle.sot_lang.specs.declared.term.Term.TheVariants.{Number, Place}
use Rattle.sot_worked_missions.specs.Parts.{IsBinary}
use Rattle.sot_worked_missions.proofs.battery.drain.Goals as goal

pub returns : goal.returns
returns c =
    let toll = c.in_ok-toll.toll in
    let first = c.in_ok-first.first in
    let second = c.in_ok-second.second in record {
      toll = toll;
      first = first;
      second = second;
      is_toll = c.in_ok-toll.ensures;
      one = subst (λ s. IsBinary Sub (Place 1) (Number (pos 1)) s first) c.span-inner.ensures c.in_ok-first.ensures;
      two = subst (λ s. IsBinary Sub first toll s second) c.span-middle.ensures c.in_ok-second.ensures;
      is = subst (λ s. IsBinary Sub second (Place 4) s c.in_ok-value.value) c.span-outer.ensures c.in_ok-value.ensures;
    }
