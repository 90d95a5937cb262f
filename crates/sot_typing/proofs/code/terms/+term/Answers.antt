-- Of the cycle `term`: what their calls ask for, that the loops keep what they say, and their promises.
use Rattle.std.proofs.Common.{rules, arith, ◌≡◌, ◌≤◌, [], ◌∷◌, ◌++◌, ap, ap₂, sym, subst, ◌∙◌}
use Rattle.std.specs.Global.{Vec}
use Rattle.sot_syntax_tree.specs.declared.tree.Expr.{Expr, the_lemmas}
use Rattle.sot_syntax_tree.specs.declared.tree.Choice.{Choice}
use Rattle.sot_syntax_tree.specs.Trees.{binary, negated, denied, rescaled, chosen, called}
use Rattle.sot_syntax_tree.specs.declared.tree.Operands.{out-Operands}
use Rattle.sot_syntax_tree.specs.TreeViews.{tree_view, parts_view}
use Rattle.sot_syntax_tree.proofs.CallRows.{call_view}
use Rattle.sot_rules.specs.TreeSorts.{is_no_scale}
use Rattle.sot_rules.specs.Faults.{tree_faults}
use Rattle.sot_typing.specs.Terms.{sort_scale}
use Rattle.sot_typing.specs.Things.{things_in}
use Rattle.sot_typing.proofs.Faultless.{binary_left, binary_right, scales_fit, joined_is, rest_part, negated_part, negated_is, denied_part, denied_is}
use Rattle.sot_typing.proofs.Faultless.{rescaled_part, is_scale, rescaled_is, condition, first_branch, second_branch, chosen_is, called_parts, called_is, if_ok}
use Rattle.sot_typing.proofs.PartLoops.{given_decimals, part_faultless, rest_faultless, form_next, sort_next, parts_done}
use Rattle.sot_typing.proofs.code.terms.+term.Goals as goal

pub term-term-requires : goal.term-term-requires
term-term-requires t c =
    let names = things_in c.args.things.now in
    let both = out-Operands c.in-Binary.operands.value in
    let part = ap (λ z. tree_faults names (tree_view (out-Operands z).left)) c.deref.ensures in (
      search (rules, the_lemmas, c.in-Binary.is, c.deref.ensures, c.decreases),
      (
        c.requires.few,
        part ∙ binary_left names c.in-Binary.op (tree_view both.left) (tree_view both.right) c.in-Binary.at (tree_view c.args.e.now)
            (ap tree_view c.in-Binary.is) c.requires.faultless,
      ),
    )

pub term-term-requires-in-Binary : goal.term-term-requires-in-Binary
term-term-requires-in-Binary t c =
    let names = things_in c.args.things.now in
    let both = out-Operands c.in-Binary.operands.value in
    let part = ap (λ z. tree_faults names (tree_view (out-Operands z).right)) c.deref-in-Binary.ensures in (
      search (rules, the_lemmas, c.in-Binary.is, c.deref-in-Binary.ensures, c.decreases),
      (
        c.requires.few,
        part ∙ binary_right names c.in-Binary.op (tree_view both.left) (tree_view both.right) c.in-Binary.at (tree_view c.args.e.now)
            (ap tree_view c.in-Binary.is) c.requires.faultless,
      ),
    )

pub term-joined-requires-clause-fits : goal.term-joined-requires-clause-fits
term-joined-requires-clause-fits t c =
    let names = things_in c.args.things.now in
    let is = ap tree_view c.in-Binary.is ∙ ap₂ (λ x y. binary c.in-Binary.op (tree_view (out-Operands x).left) (tree_view (out-Operands y).right)
    c.in-Binary.at) (sym c.deref.ensures) (sym c.deref-in-Binary.ensures) in
    scales_fit names c.in-Binary.op _ _ c.in-Binary.at (tree_view c.args.e.now) is c.requires.faultless c.in_ok-a-in-Binary.a c.in_ok-b-in-Binary.b
    c.in_ok-a-in-Binary.ensures c.in_ok-b-in-Binary.ensures

pub term-returns-in_ok-b-in-Binary : goal.term-returns-in_ok-b-in-Binary
term-returns-in_ok-b-in-Binary t c =
    let names = things_in c.args.things.now in
    let is = ap tree_view c.in-Binary.is ∙ ap₂ (λ x y. binary c.in-Binary.op (tree_view (out-Operands x).left) (tree_view (out-Operands y).right)
    c.in-Binary.at) (sym c.deref.ensures) (sym c.deref-in-Binary.ensures) in
    if_ok c.joined.result (joined_is names c.in-Binary.op _ _ c.in-Binary.at (tree_view c.args.e.now) is c.requires.faultless c.in_ok-a-in-Binary.a
    c.in_ok-b-in-Binary.b c.in_ok-a-in-Binary.ensures c.in_ok-b-in-Binary.ensures) c.joined.ensures

pub term-term-requires-in-Rest : goal.term-term-requires-in-Rest
term-term-requires-in-Rest t c =
    let names = things_in c.args.things.now in
    let part = ap (λ z. tree_faults names (tree_view z)) c.deref-in-Rest.ensures in (
      search (rules, the_lemmas, c.in-Rest.is, c.deref-in-Rest.ensures, c.decreases),
      (
        c.requires.few,
        part ∙ rest_part names (tree_view c.in-Rest.left.value) c.in-Rest.by c.in-Rest.at (tree_view c.args.e.now) (ap tree_view c.in-Rest.is)
            c.requires.faultless,
      ),
    )

pub term-term-requires-in-Neg : goal.term-term-requires-in-Neg
term-term-requires-in-Neg t c =
    let names = things_in c.args.things.now in
    let part = ap (λ z. tree_faults names (tree_view z)) c.deref-in-Neg.ensures in (
      search (rules, the_lemmas, c.in-Neg.is, c.deref-in-Neg.ensures, c.decreases),
      (
        c.requires.few,
        part ∙ negated_part names (tree_view c.in-Neg.part.value) c.in-Neg.at (tree_view c.args.e.now) (ap tree_view c.in-Neg.is)
            c.requires.faultless,
      ),
    )

pub term-returns-in_ok-a-in-Neg : goal.term-returns-in_ok-a-in-Neg
term-returns-in_ok-a-in-Neg t c =
    let names = things_in c.args.things.now in
    let is = ap tree_view c.in-Neg.is ∙ ap (λ x. negated (tree_view x) c.in-Neg.at) (sym c.deref-in-Neg.ensures) in
    if_ok c.negation.result (negated_is names _ c.in-Neg.at (tree_view c.args.e.now) is c.requires.faultless c.in_ok-a-in-Neg.a c.in_ok-a-in-Neg.ensures)
    c.negation.ensures

pub term-term-requires-in-Not : goal.term-term-requires-in-Not
term-term-requires-in-Not t c =
    let names = things_in c.args.things.now in
    let part = ap (λ z. tree_faults names (tree_view z)) c.deref-in-Not.ensures in (
      search (rules, the_lemmas, c.in-Not.is, c.deref-in-Not.ensures, c.decreases),
      (
        c.requires.few,
        part ∙ denied_part names (tree_view c.in-Not.part.value) c.in-Not.at (tree_view c.args.e.now) (ap tree_view c.in-Not.is)
            c.requires.faultless,
      ),
    )

pub term-returns-in_ok-a-in-Not : goal.term-returns-in_ok-a-in-Not
term-returns-in_ok-a-in-Not t c =
    let names = things_in c.args.things.now in
    let is = ap tree_view c.in-Not.is ∙ ap (λ x. denied (tree_view x) c.in-Not.at) (sym c.deref-in-Not.ensures) in
    if_ok c.denial.result (denied_is names _ c.in-Not.at (tree_view c.args.e.now) is c.requires.faultless c.in_ok-a-in-Not.a c.in_ok-a-in-Not.ensures)
    c.denial.ensures

pub term-term-requires-in-Rescale : goal.term-term-requires-in-Rescale
term-term-requires-in-Rescale t c =
    let names = things_in c.args.things.now in
    let part = ap (λ z. tree_faults names (tree_view z)) c.deref-in-Rescale.ensures in (
      search (rules, the_lemmas, c.in-Rescale.is, c.deref-in-Rescale.ensures, c.decreases),
      (
        c.requires.few,
        part ∙ rescaled_part names (tree_view c.in-Rescale.part.value) c.in-Rescale.to c.in-Rescale.at (tree_view c.args.e.now)
            (ap tree_view c.in-Rescale.is) c.requires.faultless,
      ),
    )

pub term-change_of_scale-requires-clause-to : goal.term-change_of_scale-requires-clause-to
term-change_of_scale-requires-clause-to t c =
    ap is_no_scale c.content-in-Rescale.ensures
    ∙ is_scale (things_in c.args.things.now) (tree_view c.in-Rescale.part.value) c.in-Rescale.to c.in-Rescale.at (tree_view c.args.e.now)
    (ap tree_view c.in-Rescale.is) c.requires.faultless

pub term-returns-in_ok-a-in-Rescale : goal.term-returns-in_ok-a-in-Rescale
term-returns-in_ok-a-in-Rescale t c =
    let names = things_in c.args.things.now in
    let is =
    ap tree_view c.in-Rescale.is
    ∙ ap (λ x. rescaled (tree_view x) c.in-Rescale.to c.in-Rescale.at) (sym c.deref-in-Rescale.ensures)
    ∙ ap (λ l. rescaled (tree_view c.deref-in-Rescale.result.now) l c.in-Rescale.at) (sym c.content-in-Rescale.ensures) in
    if_ok c.change_of_scale.result (rescaled_is names _ c.content-in-Rescale.result.now c.in-Rescale.at (tree_view c.args.e.now) is c.requires.faultless
    c.in_ok-a-in-Rescale.a c.in_ok-a-in-Rescale.ensures) c.change_of_scale.ensures

pub term-term-requires-in-If : goal.term-term-requires-in-If
term-term-requires-in-If t c =
    let names = things_in c.args.things.now in
    let x = c.in-If.choice.value in
    let part = ap (λ (z : Choice). tree_faults names (tree_view z.cond)) c.deref-in-If.ensures in (
      search (rules, the_lemmas, c.in-If.is, c.deref-in-If.ensures, c.decreases),
      (
        c.requires.few,
        part ∙ condition names (tree_view x.cond) (tree_view x.yes) (tree_view x.no) c.in-If.at (tree_view c.args.e.now)
            (ap tree_view c.in-If.is) c.requires.faultless,
      ),
    )

pub term-term-requires-in-If-2 : goal.term-term-requires-in-If-2
term-term-requires-in-If-2 t c =
    let names = things_in c.args.things.now in
    let x = c.in-If.choice.value in
    let part = ap (λ (z : Choice). tree_faults names (tree_view z.yes)) c.deref-in-If-2.ensures in (
      search (rules, the_lemmas, c.in-If.is, c.deref-in-If-2.ensures, c.decreases),
      (
        c.requires.few,
        part ∙ first_branch names (tree_view x.cond) (tree_view x.yes) (tree_view x.no) c.in-If.at (tree_view c.args.e.now)
            (ap tree_view c.in-If.is) c.requires.faultless,
      ),
    )

pub term-term-requires-in-If-3 : goal.term-term-requires-in-If-3
term-term-requires-in-If-3 t c =
    let names = things_in c.args.things.now in
    let x = c.in-If.choice.value in
    let part = ap (λ (z : Choice). tree_faults names (tree_view z.no)) c.deref-in-If-3.ensures in (
      search (rules, the_lemmas, c.in-If.is, c.deref-in-If-3.ensures, c.decreases),
      (
        c.requires.few,
        part ∙ second_branch names (tree_view x.cond) (tree_view x.yes) (tree_view x.no) c.in-If.at (tree_view c.args.e.now)
            (ap tree_view c.in-If.is) c.requires.faultless,
      ),
    )

pub term-returns-in_ok-b-in-If : goal.term-returns-in_ok-b-in-If
term-returns-in_ok-b-in-If t c =
    let names = things_in c.args.things.now in
    let is =
    ap tree_view c.in-If.is
    ∙ ap (λ (x : Choice). chosen (tree_view x.cond) (tree_view c.in-If.choice.value.yes) (tree_view c.in-If.choice.value.no) c.in-If.at)
    (sym c.deref-in-If.ensures)
    ∙ ap₂ (λ (x y : Choice). chosen (tree_view c.deref-in-If.result.now.cond) (tree_view x.yes) (tree_view y.no) c.in-If.at) (sym c.deref-in-If-2.ensures)
    (sym c.deref-in-If-3.ensures) in
    if_ok c.chosen.result (chosen_is names _ _ _ c.in-If.at (tree_view c.args.e.now) is c.requires.faultless c.in_ok-c-in-If.c c.in_ok-a-in-If.a
    c.in_ok-b-in-If.b c.in_ok-c-in-If.ensures c.in_ok-a-in-If.ensures c.in_ok-b-in-If.ensures) c.chosen.ensures

pub term-terms-requires : goal.term-terms-requires
term-terms-requires t c =
    let names = things_in c.args.things.now in
    let parts = c.deref-in-Call-2.ensures.value ∙ ap (λ (v : Vec Expr). v.items) c.deref-in-Call.ensures in
    let is = ap tree_view c.in-Call.is ∙ call_view c.in-Call.func c.in-Call.parts c.in-Call.at
    ∙ ap (λ es. called c.in-Call.func (parts_view es) c.in-Call.at) (sym parts) in (
      search (rules, the_lemmas, c.in-Call.is, c.deref-in-Call.ensures, c.deref-in-Call-2.ensures.value, c.decreases),
      (c.requires.few, called_parts names c.in-Call.func _ c.in-Call.at (tree_view c.args.e.now) is c.requires.faultless),
    )

pub term-returns-in_ok-made-in-Call : goal.term-returns-in_ok-made-in-Call
term-returns-in_ok-made-in-Call t c =
    let names = things_in c.args.things.now in
    let parts = c.deref-in-Call-2.ensures.value ∙ ap (λ (v : Vec Expr). v.items) c.deref-in-Call.ensures in
    let is = ap tree_view c.in-Call.is ∙ call_view c.in-Call.func c.in-Call.parts c.in-Call.at
    ∙ ap (λ es. called c.in-Call.func (parts_view es) c.in-Call.at) (sym parts) in
    called_is names c.in-Call.func _ c.in-Call.at (tree_view c.args.e.now) is c.requires.faultless c.in_ok-made-in-Call.made c.in_ok-made-in-Call.ensures
    c.call.result c.call.ensures

pub terms-term-requires : goal.terms-term-requires
terms-term-requires t c = (
  search (rules, the_lemmas, c.part-item.is, c.decreases),
  (
    c.requires.few,
    part_faultless (things_in c.args.things.now) c.args.parts.now c.loop-part.part-index c.part-item.result c.loop-part-test.true
        c.part-item.is c.loop-part.invariant.faultless,
  ),
)

pub terms-loop-part-preserved : goal.terms-loop-part-preserved
terms-loop-part-preserved t c =
    let names = things_in c.args.things.now in
    let i = c.loop-part.invariant in
    record {
      faultless = rest_faultless names c.args.parts.now c.loop-part.part-index c.part-item.result c.loop-part-test.true c.part-item.is i.faultless;
      form =
          form_next names c.args.parts.now c.loop-part.part-index c.part-item.result c.loop-part-test.true c.part-item.is c.in_ok-a.a c.in_ok-a.ensures
          c.loop-part.made.terms.items c.push.new.self.items (subst (λ z. c.push.new.self.items ≡ c.loop-part.made.terms.items ++ z ∷ []) c.into_term.ensures
          c.in_ok-push.ensures.items) i.form;
      sort =
          sort_next names c.args.parts.now c.loop-part.part-index c.part-item.result c.loop-part-test.true c.part-item.is c.in_ok-a.a c.in_ok-a.ensures
          c.loop-part.made.sort c.given-made.result c.given-made.ensures i.sort;
      decimals = subst (λ s. sort_scale s ≤ 255) (sym c.given-made.ensures) (given_decimals c.loop-part.made.sort c.in_ok-a.a.sort c.in_ok-a.ensures.decimals);
    }

pub terms-returns : goal.terms-returns
terms-returns t c =
    let i = c.loop-part.invariant in
    parts_done (things_in c.args.things.now) c.args.parts.now c.loop-part.part-index c.loop-part.made (omega (arith, c.loop-part-test.false)) i.form i.sort
    i.decimals
