use Rattle.std.proofs.Common.{◌≡◌, map, length}
use Rattle.sot_parser.proofs.Loops.{Loop}
use Rattle.sot_syntax_tree.specs.TreeViews.{declaration_view}
use Rattle.sot_parser.specs.DeclarationReaders.{declaration_at, declarations_at, is_some}
use Rattle.sot_parser.proofs.declaration.declarations.Given as goal

abbrev pub invariant-loop-alloc : goal.invariant-loop-alloc
invariant-loop-alloc l =
    Loop is_some (declaration_at l.room) (declarations_at l.fn.room l.fn.tokens.tokens) (map declaration_view l.decls.items) l.tokens.tokens
    × (l.tokens.end ≡ l.fn.tokens.end)

abbrev pub decreases-loop-alloc : goal.decreases-loop-alloc
decreases-loop-alloc l = length l.tokens.tokens
