-- The loop of the cycle `block_behind`: what is left decides.
use Rattle.std.proofs.Common.{◌≡◌, drop}
use Rattle.sot_syntax_tree.specs.TreeViews.{block_view}
use Rattle.sot_rules.specs.Behind.{block_behind}
use Rattle.sot_rules.proofs.statements.behind.+block_behind.Given as goal

abbrev pub invariant-is_block_behind-loop-stmt : goal.invariant-is_block_behind-loop-stmt
invariant-is_block_behind-loop-stmt l =
    block_behind l.from (block_view (drop l.stmt-index l.stmts)) ≡ block_behind l.from (block_view l.stmts)
