use Rattle.std.proofs.Common.{◌≡◌, ◌++◌, drop}
use Rattle.std.specs.String.{string_bytes}
use Rattle.sot_syntax_tree.specs.TreeViews.{block_view}
use Rattle.sot_print.specs.Words.{laid}
use Rattle.sot_print.specs.Statements.{block_words}
use Rattle.sot_print.proofs.statement.+statement.Given as goal

-- what is written, and then what is left
abbrev pub invariant-push_statements-loop-statement : goal.invariant-push_statements-loop-statement
invariant-push_statements-loop-statement l =
    string_bytes l.out ++ laid (block_words (block_view (drop l.statement-index l.block)) l.indent)
    ≡ string_bytes l.initial.out ++ laid (block_words (block_view l.block) l.indent)
