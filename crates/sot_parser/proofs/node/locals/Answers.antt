use Rattle.std.proofs.Common.{sym, ◌∙◌, refl, map, codes}
use Rattle.std.proofs.lemmas.Result.{err_from_is_err_and}
use Rattle.sot_parser.proofs.Loops.{begun, stops, breaks_so, again_seen}
use Rattle.sot_syntax_tree.specs.TreeViews.{local_view}
use Rattle.sot_expression.specs.Lexemes.{begins, is_keyword}
use Rattle.sot_parser.specs.ListReaders.{all_at}
use Rattle.sot_parser.specs.DeclarationReaders.{local_at}
use Rattle.sot_parser.proofs.Shorter.{local_short}
use Rattle.sot_parser.proofs.node.locals.Goals as goal

pub loop-alloc-init : goal.loop-alloc-init
loop-alloc-init c = rw c.new-locals.ensures.items (begun (begins (is_keyword (codes "local"))) local_at c.args.tokens.now.tokens, refl)

pub returns-in_err-local : goal.returns-in_err-local
returns-in_err-local c =
    let p = err_from_is_err_and c.from_residual.result c.from_residual.ensures.1 in
    rw (p.1, p.2) (
      breaks_so (begins (is_keyword (codes "local"))) local_at (all_at (begins (is_keyword (codes "local"))) local_at c.args.tokens.now.tokens)
          (map local_view c.loop-alloc.locals.items) c.loop-alloc.tokens.tokens c.local.new.tokens.tokens c.in_err-local.field-0.0
          (sym c.is_keyword.ensures ∙ c.loop-alloc-test.true) c.in_err-local.ensures.0 c.loop-alloc.invariant.0,
      c.in_err-local.ensures.1 ∙ c.loop-alloc.invariant.1,
    )

pub loop-alloc-smaller : goal.loop-alloc-smaller
loop-alloc-smaller c = local_short c.loop-alloc.tokens.tokens (local_view c.in_ok-local.local, c.local.new.tokens.tokens) c.in_ok-local.ensures.0

pub loop-alloc-preserved : goal.loop-alloc-preserved
loop-alloc-preserved c =
    rw c.in_ok-push.ensures.items (
      again_seen local_view (begins (is_keyword (codes "local"))) local_at local_short
          (all_at (begins (is_keyword (codes "local"))) local_at c.args.tokens.now.tokens) c.loop-alloc.locals.items c.in_ok-local.local
          c.loop-alloc.tokens.tokens c.local.new.tokens.tokens
          (sym c.is_keyword.ensures ∙ c.loop-alloc-test.true) c.in_ok-local.ensures.0 c.loop-alloc.invariant.0,
      c.in_ok-local.ensures.1 ∙ c.loop-alloc.invariant.1,
    )

pub returns : goal.returns
returns c = (
  stops (begins (is_keyword (codes "local"))) local_at (all_at (begins (is_keyword (codes "local"))) local_at c.args.tokens.now.tokens)
      (map local_view c.loop-alloc.locals.items) c.loop-alloc.tokens.tokens
      (sym c.is_keyword.ensures ∙ c.loop-alloc-test.false) c.loop-alloc.invariant.0,
  c.loop-alloc.invariant.1,
)
