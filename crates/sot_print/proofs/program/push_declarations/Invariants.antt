use Rattle.std.proofs.Common.{◌≡◌, ◌==◌, ◌++◌, true, drop, map}
use Rattle.std.specs.String.{string_bytes}
use Rattle.sot_syntax_tree.specs.TreeViews.{declaration_view}
use Rattle.sot_print.specs.Words.{laid}
use Rattle.sot_print.specs.Canonical.{declarations_from}
use Rattle.sot_print.proofs.program.push_declarations.Given as goal

-- what is written, and then what is left
abbrev pub invariant-loop-place : goal.invariant-loop-place
invariant-loop-place l =
    string_bytes l.out ++ laid (declarations_from (l.place == 0) (map declaration_view (drop l.place l.declarations)))
    ≡ string_bytes l.initial.out ++ laid (declarations_from true (map declaration_view l.declarations))
