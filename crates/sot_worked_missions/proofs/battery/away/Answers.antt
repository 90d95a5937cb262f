-- Of `away`: its promises.
use Rattle.std.proofs.Common.{ap}
use Rattle.sot_syntax_tree.specs.declared.operator.Func.TheVariants.{Abs}
use Rattle.sot_lang.specs.declared.term.Term.{Call}
use Rattle.sot_worked_missions.proofs.battery.away.Goals as goal

pub returns : goal.returns
returns c = (c.in_ok-vec.field-0, c.in_ok-vec.ensures.items, ap (λ s. Call Abs c.in_ok-vec.field-0 s) c.span.ensures)
