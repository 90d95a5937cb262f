-- Of `numbers`: what its calls ask for, that its loop keeps what it says, and its promises.
use Rattle.std.proofs.Common.{subst, sym, ap, map, drop, ◌∙◌, ◌+◌, ◌++◌}
use Rattle.std.proofs.lemmas.List.{drop_all, append-nil}
use Rattle.sot_syntax_tree.specs.TreeViews.{declaration_view}
use Rattle.sot_typing.specs.Numbers.{FitLimits, numbers_from}
use Rattle.sot_typing.proofs.Counting.{room, few_left, left_are, step_numbers}
use Rattle.sot_typing.proofs.names.numbers.numbers.Goals as goal

pub count-requires : goal.count-requires
count-requires c =
    let here = left_are c.args.decls.now c.loop-d.d-index c.d-item.result c.loop-d-test.true c.d-item.is in
    room c.loop-d.counts _ _ (subst (FitLimits c.loop-d.counts) here c.loop-d.invariant.few)

pub loop-d-preserved : goal.loop-d-preserved
loop-d-preserved c =
    let here = left_are c.args.decls.now c.loop-d.d-index c.d-item.result c.loop-d-test.true c.d-item.is in
    let left = map declaration_view (drop (c.loop-d.d-index + 1) c.args.decls.now) in
    record {
      few =
          subst (λ z. FitLimits z left) (sym c.count.ensures.counts)
          (few_left c.loop-d.counts _ _ (subst (FitLimits c.loop-d.counts) here c.loop-d.invariant.few));
      numbers = step_numbers c.args.decls.now c.loop-d.d-index c.d-item.result c.loop-d.counts c.count.new.counts c.count.result _ _ _
          c.loop-d-test.true c.d-item.is c.count.ensures.number c.count.ensures.counts c.in_ok-push.ensures.items c.loop-d.invariant.numbers;
    }

pub returns : goal.returns
returns c =
    sym (append-nil c.loop-d.numbers.items)
    ∙ ap (λ z. c.loop-d.numbers.items ++ numbers_from c.loop-d.counts (map declaration_view z))
    (sym (drop_all c.loop-d.d-index c.args.decls.now c.loop-d-test.false))
    ∙ c.loop-d.invariant.numbers
