-- Worked evaluations, computed by the ends.
use Rattle.std.proofs.Common.{pos, negsuc, false, [], ◌∷◌, refl, ap, subst, arith}
use Rattle.std.specs.Global.{Global}
use Rattle.std.proofs.lemmas.Int.{ints}
use Rattle.sot_syntax_tree.specs.declared.operator.Op.TheVariants.{Add}
use Rattle.sot_lang.specs.declared.term.Term.TheVariants.{Number, Place, Binary', If'}
use Rattle.sot_lang.specs.declared.act.Act.TheVariants.{Publish}
use Rattle.sot_lang.specs.Line.{somewhere, boxed, slow_acts}
use Rattle.sot_lang.specs.Examples.{elsewhere}
use Rattle.sot_lang.proofs.ActRows.{If-ActFits}
use Rattle.sot_iv.specs.declared.drafted.Drafted.TheVariants.{Absent}
use Rattle.sot_iv.specs.BodyIntervals.{Intervals, IsExecutionIntervals}
use Rattle.sot_iv.specs.Evaluation.{and_then, body_intervals}
use Rattle.sot_iv.proofs.Rows.{act_intervals-If}
use Rattle.sot_iv.specs.Ends.{quotient_or_trap}
use Rattle.sot_iv.specs.Examples.{from_to}
use Rattle.sot_iv.specs.BodyExamples.{below_five, one_or_nine, ten_by, first_branch, second_branch, branches, Conditions, FirstTraps, Branches, OutsideTarget}
use Rattle.sot_iv.specs.BodyExamples.{SlowOverItsRanges}
use Rattle.sot_iv.proofs.Terms.{term_is}
use Rattle.sot_iv.proofs.Bodies.{execution_is}

pub conditions : (g : Global) → Conditions g
conditions g = (
  term_is 1 (one_or_nine g) (from_to (pos 0) (pos 4) ∷ []) (omega (arith, ints), tt) ((omega arith, tt), tt, tt),
  term_is 1 (one_or_nine g) (from_to (pos 5) (pos 7) ∷ []) (omega (arith, ints), tt) ((omega arith, tt), tt, tt),
  term_is 1 (one_or_nine g) (from_to (pos 0) (pos 9) ∷ []) (omega (arith, ints), tt) ((omega arith, tt), tt, tt),
)

pub first_traps : (g : Global) → FirstTraps g
unfolding quotient_or_trap
first_traps g = (
  term_is 1 (Binary' Add (boxed g) (ten_by g elsewhere) (boxed g) (ten_by g somewhere) somewhere) (from_to (pos 0) (pos 5) ∷ []) (omega (arith, ints), tt)
      ((tt, omega arith), (tt, omega arith)),
  term_is 1 (If' (boxed g) (below_five g) (boxed g) (ten_by g elsewhere) (boxed g) (ten_by g somewhere) somewhere) (from_to (pos 0) (pos 5) ∷ [])
      (omega (arith, ints), tt) ((omega arith, tt), (tt, omega arith), (tt, omega arith)),
  term_is 1 (If' (boxed g) (below_five g) (boxed g) (Number (pos 1)) (boxed g) (ten_by g somewhere) somewhere) (from_to (pos 0) (pos 4) ∷ [])
      (omega (arith, ints), tt) ((omega arith, tt), tt, (tt, omega arith)),
)

pub both_branches : (g : Global) → Branches g
both_branches g =
    let seen = from_to (pos 0) (pos 9) ∷ [] in
    let locals = from_to (pos 0) (pos 9) ∷ [] in
    let writes = from_to (pos 0) (pos 9) ∷ from_to (pos 0) (pos 9) ∷ [] in
    let start : Intervals = record { locals = from_to (pos 5) (pos 5) ∷ []; draft = Absent ∷ Absent ∷ [] } in
    let e = ap (λ o. and_then o (body_intervals seen locals writes []))
    (act_intervals-If seen locals writes (below_five g) (first_branch g) (second_branch g) start) in
    subst (IsExecutionIntervals (branches g) locals writes seen (from_to (pos 5) (pos 5) ∷ [])) e
    (execution_is (false ∷ false ∷ []) 1 2 seen locals writes (omega (arith, ints), tt) (branches g) (from_to (pos 5) (pos 5) ∷ []) (
      If-ActFits (false ∷ false ∷ []) 1 2 (below_five g) (first_branch g) (second_branch g) tt (tt, omega arith, refl)
          ((omega arith, refl), ((omega arith, refl), ((omega arith, refl), tt))) ((omega arith, refl), tt),
      tt,
    )
    (omega (arith, ints), tt))

pub outside_target : (g : Global) → OutsideTarget g
outside_target g =
    execution_is (false ∷ []) 0 1 (from_to (pos 0) (pos 12) ∷ []) [] (from_to (pos 0) (pos 9) ∷ []) (omega (arith, ints), tt)
    (Publish 0 (Place 0) elsewhere ∷ []) []
    ((omega arith, omega arith), tt) tt

pub slow_over_its_ranges : (g : Global) → SlowOverItsRanges g
slow_over_its_ranges g =
    execution_is (false ∷ []) 0 1 (from_to (negsuc 39) (pos 40) ∷ []) [] (from_to (negsuc 1) (pos 2) ∷ []) (omega (arith, ints), tt) (slow_acts g) []
    ((omega arith, (tt, (tt, omega arith, refl), refl, (tt, (tt, omega arith, refl), refl, refl))), tt) tt
