use Rattle.std.proofs.Common.{◌≡◌, map, length, codes}
use Rattle.sot_parser.proofs.Loops.{Loop}
use Rattle.sot_syntax_tree.specs.TreeViews.{local_view}
use Rattle.sot_expression.specs.Lexemes.{begins, is_keyword}
use Rattle.sot_parser.specs.ListReaders.{all_at}
use Rattle.sot_parser.specs.DeclarationReaders.{local_at}
use Rattle.sot_parser.proofs.node.locals.Given as goal

abbrev pub invariant-loop-alloc : goal.invariant-loop-alloc
invariant-loop-alloc l =
    Loop (begins (is_keyword (codes "local"))) local_at (all_at (begins (is_keyword (codes "local"))) local_at l.fn.tokens.tokens)
    (map local_view l.locals.items) l.tokens.tokens
    × (l.tokens.end ≡ l.fn.tokens.end)

abbrev pub decreases-loop-alloc : goal.decreases-loop-alloc
decreases-loop-alloc l = length l.tokens.tokens
