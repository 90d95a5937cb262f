use Rattle.std.proofs.Common.{Ok, ap, sym, ◌∙◌, refl, map}
use Rattle.std.specs.Global.{Vec}
use Rattle.std.proofs.lemmas.Result.{err_from_is_err_and}
use Rattle.sot_parser.proofs.Loops.{begun, stops, breaks_so, again_seen}
use Rattle.sot_syntax_tree.specs.declared.tree.Expr.{Expr}
use Rattle.sot_syntax_tree.specs.declared.tree.Branch.{Branch}
use Rattle.sot_syntax_tree.specs.declared.tree.Stmt.{Stmt}
use Rattle.sot_syntax_tree.specs.TreeViews.{tree_view, statement_view, block_view}
use Rattle.sot_parser.specs.ListReaders.{all_at}
use Rattle.sot_expression.specs.ExpressionReaders.{tree_at}
use Rattle.sot_parser.specs.StatementReaders.{block_at, goes_on, statement_at}
use Rattle.sot_parser.proofs.Shorter.{statement_short}
use Rattle.sot_parser.proofs.StatementSteps.{block_read, branch_read, repeat_read}
use Rattle.sot_parser.proofs.statement.+statement.Goals as goal

pub statements-loop-alloc-init : goal.statements-loop-alloc-init
statements-loop-alloc-init t c = rw c.new-body.ensures.items (begun goes_on (statement_at c.args.room) c.args.tokens.now.tokens, refl)

pub statements-returns-in_err-next : goal.statements-returns-in_err-next
statements-returns-in_err-next t c =
    let p = err_from_is_err_and c.from_residual.result c.from_residual.ensures.1 in
    rw (p.1, p.2) (
      breaks_so goes_on (statement_at c.args.room) (all_at goes_on (statement_at c.args.room) c.args.tokens.now.tokens)
          (map statement_view c.loop-alloc.body.items) c.loop-alloc.tokens.tokens c.statement.new.tokens.tokens c.in_err-next.field-0.0
          (sym c.goes_on.ensures ∙ c.loop-alloc-test.true) c.in_err-next.ensures.0 c.loop-alloc.invariant.0,
      c.in_err-next.ensures.1 ∙ c.loop-alloc.invariant.1,
    )

pub statements-loop-alloc-smaller : goal.statements-loop-alloc-smaller
statements-loop-alloc-smaller t c =
    statement_short c.args.room c.loop-alloc.tokens.tokens (statement_view c.in_ok-next.next, c.statement.new.tokens.tokens) c.in_ok-next.ensures.0

pub statements-loop-alloc-preserved : goal.statements-loop-alloc-preserved
statements-loop-alloc-preserved t c =
    rw c.in_ok-push.ensures.items (
      again_seen statement_view goes_on (statement_at c.args.room) (statement_short c.args.room)
          (all_at goes_on (statement_at c.args.room) c.args.tokens.now.tokens) c.loop-alloc.body.items c.in_ok-next.next c.loop-alloc.tokens.tokens
          c.statement.new.tokens.tokens
          (sym c.goes_on.ensures ∙ c.loop-alloc-test.true) c.in_ok-next.ensures.0 c.loop-alloc.invariant.0,
      c.in_ok-next.ensures.1 ∙ c.loop-alloc.invariant.1,
    )

pub statements-returns : goal.statements-returns
statements-returns t c = (
  stops goes_on (statement_at c.args.room) (all_at goes_on (statement_at c.args.room) c.args.tokens.now.tokens) (map statement_view c.loop-alloc.body.items)
      c.loop-alloc.tokens.tokens
      (sym c.goes_on.ensures ∙ c.loop-alloc-test.false) c.loop-alloc.invariant.0,
  c.loop-alloc.invariant.1,
)

pub block-returns : goal.block-returns
block-returns t c = (
  block_read (statement_at c.args.room) c.args.tokens.now.tokens c.expect_sign.new.tokens.tokens c.statements.new.tokens.tokens
      c.expect_sign-2.new.tokens.tokens c.in_ok-expect_sign.field-0 c.in_ok-expect_sign-2.field-0
      c.in_ok-body.body.items c.in_ok-expect_sign.ensures.0 c.in_ok-body.ensures.0 c.in_ok-expect_sign-2.ensures.0,
  c.in_ok-expect_sign-2.ensures.1 ∙ c.in_ok-body.ensures.1 ∙ c.in_ok-expect_sign.ensures.1,
)

pub branch-returns : goal.branch-returns
branch-returns t c =
    let made = c.in_ok-branch.ensures.ok in
    let cond = c.in_ok-tree.ensures.0 ∙ ap (λ (e : Expr). Ok (tree_view e, c.tree.new.tokens.tokens))
    (sym (ap (λ (b : Branch). b.cond) made ∙ c.take-cond.ensures)) in
    let yes_ = c.in_ok-yes.ensures.0 ∙ ap (λ (ss : Vec Stmt). Ok (block_view ss.items, c.block.new.tokens.tokens)) (sym (ap (λ (b : Branch). b.yes) made)) in
    let no_ = c.in_ok-no.ensures.0 ∙ ap (λ (ss : Vec Stmt). Ok (block_view ss.items, c.optional_else.new.tokens.tokens)) (sym (ap (λ (b : Branch). b.no) made))
    in (
      branch_read (tree_at c.args.room) (block_at (statement_at c.args.room)) c.args.tokens.now.tokens c.expect_keyword.new.tokens.tokens
          c.tree.new.tokens.tokens c.block.new.tokens.tokens c.optional_else.new.tokens.tokens c.in_ok-at.at
          c.in_ok-branch.branch c.in_ok-at.ensures.0 cond yes_ no_,
      c.in_ok-no.ensures.1 ∙ c.in_ok-yes.ensures.1 ∙ c.in_ok-tree.ensures.1 ∙ c.in_ok-at.ensures.1,
    )

pub repeat-returns : goal.repeat-returns
repeat-returns t c = (
  repeat_read (block_at (statement_at c.args.room)) c.args.tokens.now.tokens c.expect_keyword.new.tokens.tokens c.number.new.tokens.tokens
      c.block.new.tokens.tokens c.in_ok-at.at c.in_ok-times.times c.in_ok-body.body
      c.in_ok-at.ensures.0 c.in_ok-times.ensures.0 c.in_ok-body.ensures.0,
  c.in_ok-body.ensures.1 ∙ c.in_ok-times.ensures.1 ∙ c.in_ok-at.ensures.1,
)
