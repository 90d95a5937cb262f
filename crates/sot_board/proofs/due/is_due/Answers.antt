use Rattle.std.proofs.Common.{sym, ap, ◌∙◌, arith}
use Rattle.std.proofs.lemmas.Bool.{eq-eqb, eqb-true, ltb-true}
use Rattle.std.proofs.lemmas.List.{drop_all}
use Rattle.sot_lists.proofs.Places.{drop_at}
use Rattle.sot_board.proofs.InputsDue.{same_first}
use Rattle.sot_board.proofs.due.is_due.Goals as goal

pub returns-then-next-inputs : goal.returns-then-next-inputs
returns-then-next-inputs c =
    let here = drop_at c.args.flight.now.inputs c.args.next _ c.input.ensures in (
      (λ on. (_, _, here, eqb-true c.input.result.at c.args.time on)),
      (λ (x, rest, is, now). eq-eqb c.input.result.at c.args.time (sym (ap (λ i. i.at) (same_first x _ rest _ (sym is ∙ here))) ∙ now)),
    )

pub returns-else-next-inputs : goal.returns-else-next-inputs
returns-else-next-inputs c =
    let none = drop_all c.args.next c.args.flight.now.inputs (omega (arith, c.if-next-inputs.false, c.inputs.ensures)) in (
      (λ on. absurd (let lt = ltb-true c.args.next c.inputs.result on in omega (arith, lt, c.if-next-inputs.false))),
      (λ (x, rest, is, now). absurd (let e = sym none ∙ is in cc)),
    )
