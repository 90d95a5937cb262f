-- An expression that does not trap has one interval, wherever it stands in a text.
use Rattle.std.proofs.Common.{◌≡◌, ◌↔◌, inr, ⊎_elim, List, [], ◌∷◌, map, Ok}
use Rattle.sot_text.specs.declared.token.Span.{Span}
use Rattle.sot_syntax_tree.specs.declared.operator.Op.{Op}
use Rattle.sot_box.specs.Sides.{Side}
use Rattle.sot_iv.specs.TermIntervals.{OrMayTrap, After, Chooses, IsIntervalHull, IsLeastResult, IsImage, rest_result, neg_result, not_result, rescale_result}
use Rattle.sot_iv.specs.TermIntervals.{called_result}
use Rattle.sot_typing.specs.Formulas.{Formula, number, place, binary, rest, negated, denied, called, rescaled, chosen, Formulas, no_formula, one_more}
use Rattle.sot_law_equal_tables.proofs.Expressions.{IsFormulaInterval, AreFormulasIntervals, AreViewIntervals}
use Rattle.sot_law_print_parse.specs.Unplaced.{nowhere}
use Rattle.sot_law_equal_tables.specs.UnplacedTables.{unplaced_formula, unplaced_formulas}
use Rattle.sot_law_equal_tables.proofs.Steps.{same_fact, no_trap, step, join, choose}

result_there : (op : Op) (at w : Span) (x y v : Side) → IsLeastResult op at x y (Ok v) → IsLeastResult op w x y (Ok v)
result_there op at w x y v = ⊎_elim (λ l. absurd (no_trap v _ l.1)) (λ r. inr r)

result_same : (op : Op) (at w : Span) (x y v : Side) → IsLeastResult op at x y (Ok v) ↔ IsLeastResult op w x y (Ok v)
result_same op at w x y v = (result_there op at w x y v, result_there op w at x y v)

mutual
  pub formula_same : (f : Formula) (rs : List Side) (v : Side) → IsFormulaInterval f rs (Ok v) ↔ IsFormulaInterval (unplaced_formula f) rs (Ok v)
  formula_same (number z) rs v = same_fact
  formula_same (place k) rs v = same_fact
  formula_same (binary op a b at) rs v =
      step (IsFormulaInterval a rs) (IsFormulaInterval (unplaced_formula a) rs)
      (λ x. (y : OrMayTrap Side) × IsFormulaInterval b rs y × After y (Ok v) (λ y. IsLeastResult op at x y (Ok v)))
      (λ x. (y : OrMayTrap Side) × IsFormulaInterval (unplaced_formula b) rs y × After y (Ok v) (λ y. IsLeastResult op nowhere x y (Ok v)))
      v
      (formula_same a rs)
      (λ x. step (IsFormulaInterval b rs) (IsFormulaInterval (unplaced_formula b) rs)
      (λ y. IsLeastResult op at x y (Ok v)) (λ y. IsLeastResult op nowhere x y (Ok v)) v (formula_same b rs) (λ y. result_same op at nowhere x y v))
  formula_same (rest a by at) rs v =
      step (IsFormulaInterval a rs) (IsFormulaInterval (unplaced_formula a) rs)
      (λ x. IsImage (rest_result by) at (x ∷ []) (Ok v)) (λ x. IsImage (rest_result by) nowhere (x ∷ []) (Ok v)) v (formula_same a rs) (λ x. same_fact)
  formula_same (negated a at) rs v =
      step (IsFormulaInterval a rs) (IsFormulaInterval (unplaced_formula a) rs)
      (λ x. IsImage neg_result at (x ∷ []) (Ok v)) (λ x. IsImage neg_result nowhere (x ∷ []) (Ok v)) v (formula_same a rs) (λ x. same_fact)
  formula_same (denied a at) rs v =
      step (IsFormulaInterval a rs) (IsFormulaInterval (unplaced_formula a) rs)
      (λ x. IsImage not_result at (x ∷ []) (Ok v)) (λ x. IsImage not_result nowhere (x ∷ []) (Ok v)) v (formula_same a rs) (λ x. same_fact)
  formula_same (called f parts at) rs v =
      step (AreFormulasIntervals parts rs) (AreFormulasIntervals (unplaced_formulas parts) rs)
      (λ xs. IsImage (called_result f) at xs (Ok v)) (λ xs. IsImage (called_result f) nowhere xs (Ok v)) v (formulas_same parts rs) (λ xs. same_fact)
  formula_same (rescaled a from to at) rs v =
      step (IsFormulaInterval a rs) (IsFormulaInterval (unplaced_formula a) rs)
      (λ x. IsImage (rescale_result from to) at (x ∷ []) (Ok v)) (λ x. IsImage (rescale_result from to) nowhere (x ∷ []) (Ok v)) v (formula_same a rs)
      (λ x. same_fact)
  formula_same (chosen c a b at) rs v =
      let hull : Side → Side → Type 0 = λ y z. (r : Side) × IsIntervalHull y z r × (Ok v ≡ Ok r) in
      step (IsFormulaInterval c rs) (IsFormulaInterval (unplaced_formula c) rs)
      (λ x. Chooses x (IsFormulaInterval a rs (Ok v)) (IsFormulaInterval b rs (Ok v))
      ((y : OrMayTrap Side) × IsFormulaInterval a rs y × After y (Ok v) (λ y. (z : OrMayTrap Side) × IsFormulaInterval b rs z × After z (Ok v) (hull y))))
      (λ x. Chooses x (IsFormulaInterval (unplaced_formula a) rs (Ok v)) (IsFormulaInterval (unplaced_formula b) rs (Ok v))
      ((y : OrMayTrap Side) × IsFormulaInterval (unplaced_formula a) rs y
      × After y (Ok v) (λ y. (z : OrMayTrap Side) × IsFormulaInterval (unplaced_formula b) rs z × After z (Ok v) (hull y))))
      v
      (formula_same c rs)
      (λ x. choose x _ _ _ _ _ _ (formula_same a rs v) (formula_same b rs v)
      (step (IsFormulaInterval a rs) (IsFormulaInterval (unplaced_formula a) rs)
      (λ y. (z : OrMayTrap Side) × IsFormulaInterval b rs z × After z (Ok v) (hull y))
      (λ y. (z : OrMayTrap Side) × IsFormulaInterval (unplaced_formula b) rs z × After z (Ok v) (hull y))
      v
      (formula_same a rs)
      (λ y. step (IsFormulaInterval b rs) (IsFormulaInterval (unplaced_formula b) rs) (hull y) (hull y) v (formula_same b rs) (λ z. same_fact))))

  formulas_same : (fs : Formulas) (rs : List Side) (vs : List Side)
      → AreFormulasIntervals fs rs (Ok vs) ↔ AreFormulasIntervals (unplaced_formulas fs) rs (Ok vs)
  formulas_same no_formula rs vs = same_fact
  formulas_same (one_more f more) rs vs =
      join (IsFormulaInterval f rs) (IsFormulaInterval (unplaced_formula f) rs) (AreFormulasIntervals more rs)
      (AreFormulasIntervals (unplaced_formulas more) rs)
      vs (formula_same f rs) (formulas_same more rs)

pub views_same : (fs : List Formula) (rs : List Side) (vs : List Side) → AreViewIntervals fs rs (Ok vs) ↔ AreViewIntervals (map unplaced_formula fs) rs (Ok vs)
views_same [] rs vs = same_fact
views_same (f ∷ more) rs vs =
    join (IsFormulaInterval f rs) (IsFormulaInterval (unplaced_formula f) rs) (AreViewIntervals more rs) (AreViewIntervals (map unplaced_formula more) rs)
    vs (formula_same f rs) (views_same more rs)
