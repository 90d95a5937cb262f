-- Of the cycle `unrolled`: that the loops keep what they say, and their promises.
use Rattle.std.proofs.Common.{◌≡◌, ◌+◌, ◌-◌, ◌%◌, arith, subst, sym, ap, ◌∙◌}
use Rattle.sot_syntax_tree.specs.declared.tree.Branch.{Branch}
use Rattle.sot_syntax_tree.specs.TreeViews.{statement_view, block_view}
use Rattle.sot_rules.specs.declared.statements.unrolled.Reached.TheVariants.{At, Left}
use Rattle.sot_rules.specs.Tests.{unrolled, block_unrolled}
use Rattle.sot_rules.specs.Reached.{IsReached}
use Rattle.sot_rules.proofs.Reached.{block_at, block_done, block_then, branch_at, branch_then, copies_in, copies_none, inside_by, past_by, repeat_by}
use Rattle.sot_rules.proofs.statements.unrolled.+unrolled.Goals as goal

pub reach-returns-in-At : goal.reach-returns-in-At
reach-returns-in-At t c =
    let k = c.args.k in
    let some : k ≡ (k - 1) + 1 = omega arith in
    let taken = c.deref-in-If.ensures.value ∙ ap (λ (x : Branch). x.yes.items) c.deref.ensures in
    subst (λ s. IsReached k (unrolled (statement_view s)) (At c.in-At.found)) (sym c.in-If.is)
    (branch_at c.in-If.branch c.in-If.at k c.in-At.found some
    (subst (λ ss. IsReached (k - 1) (block_unrolled (block_view ss)) (At c.in-At.found)) taken c.in-At.ensures))

pub reach-returns-in-Left : goal.reach-returns-in-Left
reach-returns-in-Left t c =
    let k = c.args.k in
    let r = c.reach_block-in-Left.result in
    let some : k ≡ (k - 1) + 1 = omega arith in
    let taken = c.deref-in-If.ensures.value ∙ ap (λ (x : Branch). x.yes.items) c.deref.ensures in
    let other = c.deref-in-Left-2.ensures.value ∙ ap (λ (x : Branch). x.no.items) c.deref-in-Left.ensures in
    subst (λ s. IsReached k (unrolled (statement_view s)) r) (sym c.in-If.is)
    (branch_then c.in-If.branch c.in-If.at k c.in-Left.n r some
    (subst (λ ss. IsReached (k - 1) (block_unrolled (block_view ss)) (Left c.in-Left.n)) taken c.in-Left.ensures)
    (subst (λ ss. IsReached c.in-Left.n (block_unrolled (block_view ss)) r) other c.reach_block-in-Left.ensures))

pub reach-returns-in-At-reach_block : goal.reach-returns-in-At-reach_block
reach-returns-in-At-reach_block t c =
    let k = c.args.k in
    let found = c.in-At-reach_block.found in
    let some : k ≡ (k - 1) + 1 = omega arith in
    subst (λ s. IsReached k (unrolled (statement_view s)) (At found)) (sym c.in-Repeat.is)
    (repeat_by c.in-Repeat.times c.in-Repeat.body c.in-Repeat.at k c.count_of-count.result (At found) some c.count_of-count.ensures
    (copies_in c.count_of-count.result (k - 1) (block_unrolled (block_view c.in-Repeat.body.items)) found c.if-count-eq0.false
    (subst (λ ss. IsReached (k - 1) (block_unrolled (block_view ss)) (At found)) c.deref-in-Repeat.ensures.value c.in-At-reach_block.ensures)))

pub reach-returns-then-count-eq0 : goal.reach-returns-then-count-eq0
reach-returns-then-count-eq0 t c =
    let k = c.args.k in
    let some : k ≡ (k - 1) + 1 = omega arith in
    subst (λ s. IsReached k (unrolled (statement_view s)) (Left (k - 1))) (sym c.in-Repeat.is)
    (repeat_by c.in-Repeat.times c.in-Repeat.body c.in-Repeat.at k c.count_of-count.result (Left (k - 1)) some c.count_of-count.ensures
    (copies_none c.count_of-count.result (k - 1) (block_unrolled (block_view c.in-Repeat.body.items)) c.if-count-eq0.true))

pub reach-returns-in-Some : goal.reach-returns-in-Some
reach-returns-in-Some t c =
    let k = c.args.k in
    let left = c.in-Left-reach_block.n in
    let some : k ≡ (k - 1) + 1 = omega arith in
    subst (λ s. IsReached k (unrolled (statement_view s)) (Left c.in-Some.left)) (sym c.in-Repeat.is)
    (repeat_by c.in-Repeat.times c.in-Repeat.body c.in-Repeat.at k c.count_of-count.result (Left c.in-Some.left) some c.count_of-count.ensures
    (past_by c.count_of-count.result (k - 1) left c.in-Some.left (block_unrolled (block_view c.in-Repeat.body.items))
    (subst (λ ss. IsReached (k - 1) (block_unrolled (block_view ss)) (Left left)) c.deref-in-Repeat.ensures.value c.in-Left-reach_block.ensures)
    c.in-Some.ensures.past))

pub reach-returns-in-None : goal.reach-returns-in-None
reach-returns-in-None t c =
    let k = c.args.k in
    let left = c.in-Left-reach_block.n in
    let r = c.reach_block-in-None.result in
    let some : k ≡ (k - 1) + 1 = omega arith in
    subst (λ s. IsReached k (unrolled (statement_view s)) r) (sym c.in-Repeat.is)
    (repeat_by c.in-Repeat.times c.in-Repeat.body c.in-Repeat.at k c.count_of-count.result r some c.count_of-count.ensures
    (inside_by c.count_of-count.result (k - 1) left (block_unrolled (block_view c.in-Repeat.body.items)) r
    (subst (λ ss. IsReached (k - 1) (block_unrolled (block_view ss)) (Left left)) c.deref-in-Repeat.ensures.value c.in-Left-reach_block.ensures)
    c.in-None.ensures.within
    c.in-None.ensures.not_empty
    (subst (λ ss. IsReached ((k - 1) % (k - 1 - left)) (block_unrolled (block_view ss)) r) c.deref-in-None.ensures.value c.reach_block-in-None.ensures)))

pub reach_block-returns-in-At : goal.reach_block-returns-in-At
reach_block-returns-in-At t c =
    c.loop-stmt.invariant (At c.in-At.at)
    (block_at c.args.stmts.now c.loop-stmt.stmt-index c.loop-stmt.left c.stmt-item.result c.in-At.at c.loop-stmt-test.true c.stmt-item.is c.in-At.ensures)

pub reach_block-loop-stmt-preserved : goal.reach_block-loop-stmt-preserved
reach_block-loop-stmt-preserved t c r h =
    c.loop-stmt.invariant r
    (block_then c.args.stmts.now c.loop-stmt.stmt-index c.loop-stmt.left c.in-Left.n c.stmt-item.result r c.loop-stmt-test.true c.stmt-item.is c.in-Left.ensures
    h)

pub reach_block-returns : goal.reach_block-returns
reach_block-returns t c =
    c.loop-stmt.invariant (Left c.loop-stmt.left) (block_done c.args.stmts.now c.loop-stmt.stmt-index c.loop-stmt.left c.loop-stmt-test.false)
