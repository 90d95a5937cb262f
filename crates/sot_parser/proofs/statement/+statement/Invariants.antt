use Rattle.std.proofs.Common.{◌≡◌, ◌+◌, ◌*◌, map, length}
use Rattle.sot_syntax_tree.specs.TreeViews.{statement_view}
use Rattle.sot_parser.specs.ListReaders.{all_at}
use Rattle.sot_parser.specs.StatementReaders.{goes_on, statement_at}
use Rattle.sot_parser.proofs.Loops.{Loop}
use Rattle.sot_parser.proofs.statement.+statement.Given as goal

abbrev pub decreases-nested : goal.decreases-nested
decreases-nested l = 10 * l.room + 10

abbrev pub decreases-choice : goal.decreases-choice
decreases-choice l = 10 * l.room + 8

abbrev pub decreases-branch : goal.decreases-branch
decreases-branch l = 10 * l.room + 7

abbrev pub decreases-repeat : goal.decreases-repeat
decreases-repeat l = 10 * l.room + 7

abbrev pub decreases-optional_else : goal.decreases-optional_else
decreases-optional_else l = 10 * l.room + 6

abbrev pub decreases-otherwise : goal.decreases-otherwise
decreases-otherwise l = 10 * l.room + 5

abbrev pub decreases-block : goal.decreases-block
decreases-block l = 10 * l.room + 3

abbrev pub decreases-statements : goal.decreases-statements
decreases-statements l = 10 * l.room + 2

abbrev pub decreases-statement : goal.decreases-statement
decreases-statement l = 10 * l.room + 1

abbrev pub invariant-statements-loop-alloc : goal.invariant-statements-loop-alloc
invariant-statements-loop-alloc l =
    Loop goes_on (statement_at l.room) (all_at goes_on (statement_at l.fn.room) l.fn.tokens.tokens) (map statement_view l.body.items) l.tokens.tokens
    × (l.tokens.end ≡ l.fn.tokens.end)

abbrev pub decreases-statements-loop-alloc : goal.decreases-statements-loop-alloc
decreases-statements-loop-alloc l = length l.tokens.tokens
