use Rattle.std.proofs.Common.{◌≡◌, map, length, codes}
use Rattle.sot_syntax_tree.specs.TreeViews.{area_view}
use Rattle.sot_expression.specs.Lexemes.{begins, is_sign}
use Rattle.sot_parser.specs.ListReaders.{further_at, separated_at}
use Rattle.sot_parser.specs.DeclarationReaders.{box_at}
use Rattle.sot_parser.proofs.Loops.{Loop}
use Rattle.sot_parser.proofs.regions.boxes.Given as goal

abbrev pub invariant-loop-alloc : goal.invariant-loop-alloc
invariant-loop-alloc l =
    Loop (begins (is_sign (codes "|"))) (further_at (codes "|") box_at) (separated_at (codes "|") box_at l.fn.tokens.tokens) (map area_view l.boxes.items)
    l.tokens.tokens
    × (l.tokens.end ≡ l.fn.tokens.end)

abbrev pub decreases-loop-alloc : goal.decreases-loop-alloc
decreases-loop-alloc l = length l.tokens.tokens
