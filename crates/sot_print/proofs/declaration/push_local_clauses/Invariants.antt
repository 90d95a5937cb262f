use Rattle.std.proofs.Common.{◌≡◌, ◌++◌, drop, map}
use Rattle.std.specs.String.{string_bytes}
use Rattle.sot_syntax_tree.specs.TreeViews.{local_view}
use Rattle.sot_print.specs.Words.{laid}
use Rattle.sot_print.specs.Canonical.{each, local_clause}
use Rattle.sot_print.proofs.declaration.push_local_clauses.Given as goal

-- what is written, and then what is left
abbrev pub invariant-loop-local : goal.invariant-loop-local
invariant-loop-local l =
    string_bytes l.out ++ laid (each local_clause (map local_view (drop l.local-index l.locals)))
    ≡ string_bytes l.initial.out ++ laid (each local_clause (map local_view l.locals))
