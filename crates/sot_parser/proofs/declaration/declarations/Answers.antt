use Rattle.std.proofs.Common.{sym, ◌∙◌, refl, map}
use Rattle.std.proofs.lemmas.Result.{err_from_is_err_and}
use Rattle.sot_parser.proofs.Loops.{begun, stops, breaks_so, again_seen}
use Rattle.sot_syntax_tree.specs.TreeViews.{declaration_view}
use Rattle.sot_parser.specs.DeclarationReaders.{declaration_at, declarations_at, is_some}
use Rattle.sot_parser.proofs.Shorter.{declaration_short}
use Rattle.sot_parser.proofs.declaration.declarations.Goals as goal

pub loop-alloc-init : goal.loop-alloc-init
unfolding declarations_at
loop-alloc-init c = rw c.new-decls.ensures.items (begun is_some (declaration_at c.args.room) c.args.tokens.now.tokens, refl)

pub returns-in_err-next : goal.returns-in_err-next
returns-in_err-next c =
    let p = err_from_is_err_and c.from_residual.result c.from_residual.ensures.1 in
    rw (p.1, p.2) (
      breaks_so is_some (declaration_at c.args.room) (declarations_at c.args.room c.args.tokens.now.tokens) (map declaration_view c.loop-alloc.decls.items)
          c.loop-alloc.tokens.tokens c.declaration.new.tokens.tokens c.in_err-next.field-0.0
          (sym c.is_some.ensures ∙ c.loop-alloc-test.true) c.in_err-next.ensures.0 c.loop-alloc.invariant.0,
      c.in_err-next.ensures.1 ∙ c.loop-alloc.invariant.1,
    )

pub loop-alloc-smaller : goal.loop-alloc-smaller
loop-alloc-smaller c =
    declaration_short c.args.room c.loop-alloc.tokens.tokens (declaration_view c.in_ok-next.next, c.declaration.new.tokens.tokens) c.in_ok-next.ensures.0

pub loop-alloc-preserved : goal.loop-alloc-preserved
loop-alloc-preserved c =
    rw c.in_ok-push.ensures.items (
      again_seen declaration_view is_some (declaration_at c.args.room) (declaration_short c.args.room) (declarations_at c.args.room c.args.tokens.now.tokens)
          c.loop-alloc.decls.items c.in_ok-next.next c.loop-alloc.tokens.tokens c.declaration.new.tokens.tokens
          (sym c.is_some.ensures ∙ c.loop-alloc-test.true) c.in_ok-next.ensures.0 c.loop-alloc.invariant.0,
      c.in_ok-next.ensures.1 ∙ c.loop-alloc.invariant.1,
    )

pub returns : goal.returns
returns c = (
  stops is_some (declaration_at c.args.room) (declarations_at c.args.room c.args.tokens.now.tokens) (map declaration_view c.loop-alloc.decls.items)
      c.loop-alloc.tokens.tokens
      (sym c.is_some.ensures ∙ c.loop-alloc-test.false) c.loop-alloc.invariant.0,
  c.loop-alloc.invariant.1,
)
