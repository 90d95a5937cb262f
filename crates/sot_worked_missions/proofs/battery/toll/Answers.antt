-- Of `toll`: its promises.
use Rattle.std.proofs.Common.{pos, subst}
use Rattle.sot_syntax_tree.specs.declared.operator.Op.TheVariants.{Greater}
use Rattle.sot_lang.specs.declared.term.Term.TheVariants.{Number}
use Rattle.sot_worked_missions.specs.Parts.{IsBinary, IsChoice}
use Rattle.sot_worked_missions.proofs.battery.toll.Goals as goal

pub returns : goal.returns
returns c =
    let away = c.in_ok-away.away in
    let far = c.in_ok-far.far in record {
      away = away;
      far = far;
      abs = c.in_ok-away.ensures;
      tests = subst (λ s. IsBinary Greater away (Number (pos 20)) s far) c.span-greater.ensures c.in_ok-far.ensures;
      is = subst (λ s. IsChoice far (Number (pos 1)) (Number (pos 0)) s c.in_ok-value.value) c.span-outer.ensures c.in_ok-value.ensures;
    }
