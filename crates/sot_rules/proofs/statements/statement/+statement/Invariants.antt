-- The loops of the cycle `statement`: what is noted, and then what is left.
use Rattle.std.proofs.Common.{◌≡◌, drop}
use Rattle.sot_syntax_tree.specs.TreeViews.{block_view}
use Rattle.sot_rules.specs.Faults.{least, block_faults}
use Rattle.sot_rules.specs.Scopes.{scope_in}
use Rattle.sot_rules.proofs.statements.statement.+statement.Given as goal

abbrev pub invariant-block-loop-stmt : goal.invariant-block-loop-stmt
invariant-block-loop-stmt l =
    least l.first (block_faults (scope_in l.scope) (block_view (drop l.stmt-index l.stmts)))
    ≡ least l.fn.first (block_faults (scope_in l.scope) (block_view l.stmts))
