-- Of `at_least_one`: its promises.
use Rattle.std.proofs.Common.{ap}
use Rattle.sot_syntax_tree.specs.declared.operator.Func.TheVariants.{Max}
use Rattle.sot_lang.specs.declared.term.Term.{Call}
use Rattle.sot_worked_missions.proofs.division.at_least_one.Goals as goal

pub returns : goal.returns
returns c = (c.in_ok-vec.field-0, c.in_ok-vec.ensures.items, ap (λ s. Call Max c.in_ok-vec.field-0 s) c.span.ensures)
