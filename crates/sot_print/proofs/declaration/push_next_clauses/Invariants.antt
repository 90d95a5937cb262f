use Rattle.std.proofs.Common.{◌≡◌, ◌++◌, drop, map}
use Rattle.std.specs.String.{string_bytes}
use Rattle.sot_syntax_tree.specs.TreeViews.{next_view}
use Rattle.sot_print.specs.Words.{laid}
use Rattle.sot_print.specs.Canonical.{each, next_clause}
use Rattle.sot_print.proofs.declaration.push_next_clauses.Given as goal

-- what is written, and then what is left
abbrev pub invariant-loop-clause : goal.invariant-loop-clause
invariant-loop-clause l =
    string_bytes l.out ++ laid (each next_clause (map next_view (drop l.clause-index l.clauses)))
    ≡ string_bytes l.initial.out ++ laid (each next_clause (map next_view l.clauses))
