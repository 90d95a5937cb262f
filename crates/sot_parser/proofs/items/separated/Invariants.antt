use Rattle.std.proofs.Common.{◌≡◌, length}
use Rattle.sot_expression.specs.Lexemes.{begins, is_sign}
use Rattle.sot_parser.specs.ListReaders.{further_at, separated_at}
use Rattle.sot_parser.proofs.Loops.{Loop}
use Rattle.sot_parser.proofs.items.separated.Given as goal

abbrev pub invariant-loop-alloc : goal.invariant-loop-alloc
invariant-loop-alloc g l =
    Loop (begins (is_sign l.sign)) (further_at l.sign g.T.Item.reads) (separated_at l.sign g.T.Item.reads l.fn.tokens.tokens) l.items.items l.tokens.tokens
    × (l.tokens.end ≡ l.fn.tokens.end)

abbrev pub decreases-loop-alloc : goal.decreases-loop-alloc
decreases-loop-alloc g l = length l.tokens.tokens
