-- The interval of an expression does not depend on where its parts lie in memory.
use Rattle.std.proofs.Common.{◌≡◌, pos, List, [], ◌∷◌, map, Ok, refl}
use Rattle.std.specs.Prelude.{slice_index_or}
use Rattle.sot_box.specs.Sides.{Side}
use Rattle.sot_lang.specs.declared.term.Term.{Term, Row_of-Term, end_of-Term, more_of-Term}
use Rattle.sot_lang.specs.declared.term.Term.TheVariants.{Number, Place, Binary', Rest', Neg', Not', Call', Rescale', If'}
use Rattle.sot_iv.specs.TermIntervals.{OrMayTrap, After, Chooses, Joins, IsIntervalHull, IsLeastResult, IsImage, rest_result, neg_result, not_result}
use Rattle.sot_iv.specs.TermIntervals.{rescale_result, called_result, IsTermInterval, ArePartIntervals, AreTermIntervals}
use Rattle.sot_typing.specs.Formulas.{Formula, number, place, binary, rest, negated, denied, called, rescaled, chosen, Formulas, no_formula, one_more}
use Rattle.sot_typing.specs.Formulas.{formula_view, parts_view}

-- the interval of an expression without memory
abbrev mutual
  pub IsFormulaInterval : Formula → List Side → OrMayTrap Side → Type 0
  IsFormulaInterval (number z) rs o = o ≡ Ok (record { lo = z; hi = z })
  IsFormulaInterval (place n) rs o = o ≡ Ok (slice_index_or rs n (record { lo = pos 0; hi = pos 0 }))
  IsFormulaInterval (binary op a b at) rs o =
      (x : OrMayTrap Side) × IsFormulaInterval a rs x × After x o
      (λ x. (y : OrMayTrap Side) × IsFormulaInterval b rs y × After y o (λ y. IsLeastResult op at x y o))
  IsFormulaInterval (rest a by at) rs o =
      (x : OrMayTrap Side) × IsFormulaInterval a rs x × After x o (λ x. IsImage (rest_result by) at (x ∷ []) o)
  IsFormulaInterval (negated a at) rs o =
      (x : OrMayTrap Side) × IsFormulaInterval a rs x × After x o (λ x. IsImage neg_result at (x ∷ []) o)
  IsFormulaInterval (denied a at) rs o =
      (x : OrMayTrap Side) × IsFormulaInterval a rs x × After x o (λ x. IsImage not_result at (x ∷ []) o)
  IsFormulaInterval (called f parts at) rs o =
      (xs : OrMayTrap (List Side)) × AreFormulasIntervals parts rs xs × After xs o (λ xs. IsImage (called_result f) at xs o)
  IsFormulaInterval (rescaled a from to at) rs o =
      (x : OrMayTrap Side) × IsFormulaInterval a rs x × After x o (λ x. IsImage (rescale_result from to) at (x ∷ []) o)
  IsFormulaInterval (chosen c a b at) rs o =
      (x : OrMayTrap Side) × IsFormulaInterval c rs x × After x o (λ x. Chooses x
      (IsFormulaInterval a rs o)
      (IsFormulaInterval b rs o)
      ((y : OrMayTrap Side) × IsFormulaInterval a rs y × After y o
      (λ y. (z : OrMayTrap Side) × IsFormulaInterval b rs z × After z o (λ z. (r : Side) × IsIntervalHull y z r × (o ≡ Ok r)))))

  pub AreFormulasIntervals : Formulas → List Side → OrMayTrap (List Side) → Type 0
  AreFormulasIntervals no_formula rs o = o ≡ Ok []
  AreFormulasIntervals (one_more t more) rs o = (x : OrMayTrap Side) × IsFormulaInterval t rs x × Joins x (λ os. AreFormulasIntervals more rs os) o

-- the same of a list
abbrev pub AreViewIntervals : List Formula → List Side → OrMayTrap (List Side) → Type 0
AreViewIntervals [] rs o = o ≡ Ok []
AreViewIntervals (t ∷ ts) rs o = (x : OrMayTrap Side) × IsFormulaInterval t rs x × Joins x (λ os. AreViewIntervals ts rs os) o

-- an expression has the intervals of what it looks like
mutual
  pub term_view : (t : Term) (rs : List Side) (o : OrMayTrap Side) → IsTermInterval t rs o ≡ IsFormulaInterval (formula_view t) rs o
  term_view (Number z) rs o = refl
  term_view (Place n) rs o = refl
  term_view (Binary' op p a q b at) rs o = λ i.
      (x : OrMayTrap Side) × term_view a rs x i × After x o (λ x. (y : OrMayTrap Side) × term_view b rs y i × After y o (λ y. IsLeastResult op at x y o))
  term_view (Rest' p a by at) rs o = λ i.
      (x : OrMayTrap Side) × term_view a rs x i × After x o (λ x. IsImage (rest_result by) at (x ∷ []) o)
  term_view (Neg' p a at) rs o = λ i.
      (x : OrMayTrap Side) × term_view a rs x i × After x o (λ x. IsImage neg_result at (x ∷ []) o)
  term_view (Not' p a at) rs o = λ i.
      (x : OrMayTrap Side) × term_view a rs x i × After x o (λ x. IsImage not_result at (x ∷ []) o)
  term_view (Call' f shape parts at) rs o = λ i.
      (xs : OrMayTrap (List Side)) × row_view parts rs xs i × After xs o (λ xs. IsImage (called_result f) at xs o)
  term_view (Rescale' p a from to at) rs o = λ i.
      (x : OrMayTrap Side) × term_view a rs x i × After x o (λ x. IsImage (rescale_result from to) at (x ∷ []) o)
  term_view (If' p c q a r b at) rs o = λ i.
      (x : OrMayTrap Side) × term_view c rs x i × After x o (λ x. Chooses x
      (term_view a rs o i)
      (term_view b rs o i)
      ((y : OrMayTrap Side) × term_view a rs y i × After y o
      (λ y. (z : OrMayTrap Side) × term_view b rs z i × After z o (λ z. (r : Side) × IsIntervalHull y z r × (o ≡ Ok r)))))

  row_view : {m : _} (ts : Row_of-Term m) (rs : List Side) (o : OrMayTrap (List Side)) → ArePartIntervals ts rs o ≡ AreFormulasIntervals (parts_view ts) rs o
  row_view end_of-Term rs o = refl
  row_view (more_of-Term t more) rs o = λ i. (x : OrMayTrap Side) × term_view t rs x i × Joins x (λ os. row_view more rs os i) o

pub terms_view : (ts : List Term) (rs : List Side) (o : OrMayTrap (List Side)) → AreTermIntervals ts rs o ≡ AreViewIntervals (map formula_view ts) rs o
terms_view [] rs o = refl
terms_view (t ∷ ts) rs o = λ i. (x : OrMayTrap Side) × term_view t rs x i × Joins x (λ os. terms_view ts rs os i) o
