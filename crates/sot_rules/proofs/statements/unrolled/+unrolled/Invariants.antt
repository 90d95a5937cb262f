-- The loops of the cycle `unrolled`: what is reached in the statements that are left is reached in all.
use Rattle.std.proofs.Common.{drop}
use Rattle.sot_syntax_tree.specs.TreeViews.{block_view}
use Rattle.sot_rules.specs.declared.statements.unrolled.Reached.{Reached}
use Rattle.sot_rules.specs.Tests.{block_unrolled}
use Rattle.sot_rules.specs.Reached.{IsReached}
use Rattle.sot_rules.proofs.statements.unrolled.+unrolled.Given as goal

abbrev pub invariant-reach_block-loop-stmt : goal.invariant-reach_block-loop-stmt
invariant-reach_block-loop-stmt l =
    (r : Reached) → IsReached l.left (block_unrolled (block_view (drop l.stmt-index l.stmts))) r → IsReached l.fn.k (block_unrolled (block_view l.stmts)) r
