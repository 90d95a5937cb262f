-- Of the cycle `act`: what their calls ask for, that the loops keep what they say, and their promises.
use Rattle.std.proofs.Common.{rules, arith, ap, ◌∙◌}
use Rattle.sot_syntax_tree.specs.declared.tree.Stmt.{the_lemmas}
use Rattle.sot_syntax_tree.specs.declared.tree.Branch.{Branch}
use Rattle.sot_syntax_tree.specs.TreeViews.{tree_view}
use Rattle.sot_rules.specs.Faults.{tree_faults}
use Rattle.sot_typing.specs.Formulas.{formula_view}
use Rattle.sot_typing.specs.Terms.{formula_of}
use Rattle.sot_typing.specs.Bodies.{scope_in}
use Rattle.sot_typing.proofs.ActLoops.{condition_faultless, taken_faultless, other_faultless, branch_is, body_faultless, repeat_is, statement_faultless}
use Rattle.sot_typing.proofs.ActLoops.{rest_faultless, deeds_next, deeds_done}
use Rattle.sot_typing.proofs.code.acts.+act.Goals as goal

pub act-term-requires-clause-faultless : goal.act-term-requires-clause-faultless
act-term-requires-clause-faultless t c =
    ap (λ (b : Branch). tree_faults (scope_in c.args.names.now).read (tree_view b.cond)) c.deref.ensures
    ∙ condition_faultless (scope_in c.args.names.now) c.in-If.branch c.in-If.at c.args.stmt.now c.in-If.is c.requires.faultless

pub act-acts-requires : goal.act-acts-requires
act-acts-requires t c =
    let taken = c.deref-in-If-2.ensures.value ∙ ap (λ (b : Branch). b.yes.items) c.deref-in-If.ensures in (
      search (rules, the_lemmas, c.in-If.is, c.deref-in-If.ensures, c.deref-in-If-2.ensures.value, c.decreases),
      (c.requires.few, taken_faultless (scope_in c.args.names.now) c.in-If.branch c.in-If.at c.args.stmt.now c.in-If.is c.requires.faultless _ taken),
    )

pub act-acts-requires-in-If : goal.act-acts-requires-in-If
act-acts-requires-in-If t c =
    let other = c.deref-in-If-4.ensures.value ∙ ap (λ (b : Branch). b.no.items) c.deref-in-If-3.ensures in (
      search (rules, the_lemmas, c.in-If.is, c.deref-in-If-3.ensures, c.deref-in-If-4.ensures.value, c.decreases),
      (c.requires.few, other_faultless (scope_in c.args.names.now) c.in-If.branch c.in-If.at c.args.stmt.now c.in-If.is c.requires.faultless _ other),
    )

pub act-acts-requires-in-Repeat : goal.act-acts-requires-in-Repeat
act-acts-requires-in-Repeat t c = (
  search (rules, the_lemmas, c.in-Repeat.is, c.deref-in-Repeat.ensures.value, c.decreases),
  (
    c.requires.few,
    body_faultless (scope_in c.args.names.now) c.in-Repeat.times c.in-Repeat.body c.in-Repeat.at c.args.stmt.now c.in-Repeat.is
        c.requires.faultless _ c.deref-in-Repeat.ensures.value,
  ),
)

pub act-returns-in_ok-no-in-If : goal.act-returns-in_ok-no-in-If
act-returns-in_ok-no-in-If t c =
    let taken = c.deref-in-If-2.ensures.value ∙ ap (λ (b : Branch). b.yes.items) c.deref-in-If.ensures in
    let other = c.deref-in-If-4.ensures.value ∙ ap (λ (b : Branch). b.no.items) c.deref-in-If-3.ensures in
    branch_is (scope_in c.args.names.now) c.in-If.branch c.in-If.at c.args.stmt.now c.in-If.is c.into_term.result c.in_ok-yes-in-If.yes c.in_ok-no-in-If.no _ _
    taken other (ap formula_view c.into_term.ensures ∙ c.in_ok-made-in-If.ensures.form
    ∙ ap (λ (b : Branch). formula_of (scope_in c.args.names.now).read (tree_view b.cond)) c.deref.ensures) c.in_ok-yes-in-If.ensures
    c.in_ok-no-in-If.ensures

pub act-returns-in_ok-body-in-Repeat : goal.act-returns-in_ok-body-in-Repeat
act-returns-in_ok-body-in-Repeat t c =
    repeat_is (scope_in c.args.names.now) c.in-Repeat.times c.in-Repeat.body c.in-Repeat.at c.args.stmt.now c.in-Repeat.is c.count-times.result
    c.in_ok-body-in-Repeat.body _ c.deref-in-Repeat.ensures.value c.count-times.ensures c.in_ok-body-in-Repeat.ensures

pub acts-act-requires : goal.acts-act-requires
acts-act-requires t c = (
  search (rules, the_lemmas, c.stmt-item.is, c.decreases),
  (
    c.requires.few,
    statement_faultless (scope_in c.args.names.now) c.args.stmts.now c.loop-stmt.stmt-index c.stmt-item.result c.loop-stmt-test.true
        c.stmt-item.is c.loop-stmt.invariant.faultless,
  ),
)

pub acts-loop-stmt-preserved : goal.acts-loop-stmt-preserved
acts-loop-stmt-preserved t c =
    let s = scope_in c.args.names.now in
    let i = c.loop-stmt.invariant in
    record {
      faultless = rest_faultless s c.args.stmts.now c.loop-stmt.stmt-index c.stmt-item.result c.loop-stmt-test.true c.stmt-item.is i.faultless;
      form =
          deeds_next s c.args.stmts.now c.loop-stmt.stmt-index c.stmt-item.result c.loop-stmt-test.true c.stmt-item.is c.in_ok-a.a c.in_ok-a.ensures
          c.loop-stmt.made.items c.push.new.self.items c.in_ok-push.ensures.items i.form;
    }

pub acts-returns : goal.acts-returns
acts-returns t c =
    deeds_done (scope_in c.args.names.now) c.args.stmts.now c.loop-stmt.stmt-index c.loop-stmt.made.items (omega (arith, c.loop-stmt-test.false))
    c.loop-stmt.invariant.form
