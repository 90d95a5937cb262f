use Rattle.std.proofs.Common.{sym, ◌∙◌, refl, map, codes}
use Rattle.std.proofs.lemmas.Result.{err_from_is_err_and}
use Rattle.sot_parser.proofs.Loops.{begun, stops, breaks_so, again_seen}
use Rattle.sot_syntax_tree.specs.TreeViews.{next_view}
use Rattle.sot_expression.specs.Lexemes.{begins, is_keyword}
use Rattle.sot_parser.specs.ListReaders.{all_at}
use Rattle.sot_parser.specs.DeclarationReaders.{next_at}
use Rattle.sot_parser.proofs.Shorter.{next_short}
use Rattle.sot_parser.proofs.plant.nexts.Goals as goal

pub loop-alloc-init : goal.loop-alloc-init
loop-alloc-init c = rw c.new-nexts.ensures.items (begun (begins (is_keyword (codes "next"))) (next_at c.args.room) c.args.tokens.now.tokens, refl)

pub returns-in_err-next : goal.returns-in_err-next
returns-in_err-next c =
    let p = err_from_is_err_and c.from_residual.result c.from_residual.ensures.1 in
    rw (p.1, p.2) (
      breaks_so (begins (is_keyword (codes "next"))) (next_at c.args.room)
          (all_at (begins (is_keyword (codes "next"))) (next_at c.args.room) c.args.tokens.now.tokens) (map next_view c.loop-alloc.nexts.items)
          c.loop-alloc.tokens.tokens c.next.new.tokens.tokens c.in_err-next.field-0.0
          (sym c.is_keyword.ensures ∙ c.loop-alloc-test.true) c.in_err-next.ensures.0 c.loop-alloc.invariant.0,
      c.in_err-next.ensures.1 ∙ c.loop-alloc.invariant.1,
    )

pub loop-alloc-smaller : goal.loop-alloc-smaller
loop-alloc-smaller c = next_short c.args.room c.loop-alloc.tokens.tokens (next_view c.in_ok-next.next, c.next.new.tokens.tokens) c.in_ok-next.ensures.0

pub loop-alloc-preserved : goal.loop-alloc-preserved
loop-alloc-preserved c =
    rw c.in_ok-push.ensures.items (
      again_seen next_view (begins (is_keyword (codes "next"))) (next_at c.args.room) (next_short c.args.room)
          (all_at (begins (is_keyword (codes "next"))) (next_at c.args.room) c.args.tokens.now.tokens) c.loop-alloc.nexts.items c.in_ok-next.next
          c.loop-alloc.tokens.tokens c.next.new.tokens.tokens
          (sym c.is_keyword.ensures ∙ c.loop-alloc-test.true) c.in_ok-next.ensures.0 c.loop-alloc.invariant.0,
      c.in_ok-next.ensures.1 ∙ c.loop-alloc.invariant.1,
    )

pub returns : goal.returns
returns c = (
  stops (begins (is_keyword (codes "next"))) (next_at c.args.room) (all_at (begins (is_keyword (codes "next"))) (next_at c.args.room) c.args.tokens.now.tokens)
      (map next_view c.loop-alloc.nexts.items) c.loop-alloc.tokens.tokens
      (sym c.is_keyword.ensures ∙ c.loop-alloc-test.false) c.loop-alloc.invariant.0,
  c.loop-alloc.invariant.1,
)
