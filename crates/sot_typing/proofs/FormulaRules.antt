-- What the expressions and statements of tables satisfy, said of them without memory.
use Rattle.std.proofs.Common.{◌≡◌, ◌∙◌, ℕ, zero, suc, ◌<◌, ◌≤◌, pos, ◌≤ℤ◌, List, [], ◌∷◌, length, Bool, true, refl, sym, ap}
use Rattle.sot_lists.specs.Places.{At}
use Rattle.sot_syntax_tree.specs.declared.operator.Op.{Op}
use Rattle.sot_syntax_tree.specs.declared.operator.Op.TheVariants.{Add, Sub, Mul, Div, Less, LessEqual, Greater, GreaterEqual, Equal, NotEqual, And, Or}
use Rattle.sot_lang.specs.declared.term.Term.{Term, Row_of-Term, end_of-Term, more_of-Term, items-the_row-Term}
use Rattle.sot_lang.specs.declared.term.Term.TheVariants.{Number, Place, Binary', Rest', Neg', Not', Call', Rescale', If'}
use Rattle.sot_lang.specs.declared.act.Act.{Act, Row_of-Act, end_of-Act, more_of-Act}
use Rattle.sot_lang.specs.declared.act.Act.TheVariants.{Assign, Publish, If' as IfAct', Repeat'}
use Rattle.sot_lang.specs.Values.{is_word}
use Rattle.sot_syntax_tree.specs.Functions.{arity}
use Rattle.sot_lang.specs.TermRules.{GivesTruth, IsTruth, OperandsFit, TermFits, PartsFit}
use Rattle.sot_lang.specs.ActRules.{ActFits, RowFits, ActsFit}
use Rattle.sot_typing.specs.Formulas.{Formula, Formulas, number, place, binary, rest, negated, denied, called, rescaled, chosen, no_formula, one_more, Deed}
use Rattle.sot_typing.specs.Formulas.{Deeds, assigned, published, branched, repeated, no_deed, deed, formula_view, parts_view, deed_view, row_view, deeds_view}

abbrev pub IsTruthFormula : List Bool → Formula → Type 0
IsTruthFormula truths (number z) = (pos 0 ≤ℤ z) × (z ≤ℤ pos 1)
IsTruthFormula truths (place k) = At truths k true
IsTruthFormula truths (binary op a b at) = GivesTruth op
IsTruthFormula truths (denied a at) = Unit {0}
IsTruthFormula truths (chosen c a b at) = IsTruthFormula truths a × IsTruthFormula truths b
IsTruthFormula truths _ = ⊥

abbrev pub FormulasOperate : List Bool → Op → Formula → Formula → Type 0
FormulasOperate truths And a b = IsTruthFormula truths a × IsTruthFormula truths b
FormulasOperate truths Or a b = IsTruthFormula truths a × IsTruthFormula truths b
FormulasOperate truths _ a b = Unit {0}

abbrev pub formula_count : Formulas → ℕ
formula_count no_formula = zero
formula_count (one_more a more) = suc (formula_count more)

abbrev mutual
  pub FormulaFits : List Bool → Formula → Type 0
  FormulaFits truths (number z) = is_word z ≡ true
  FormulaFits truths (place k) = k < length truths
  FormulaFits truths (binary op a b at) = FormulasOperate truths op a b × FormulaFits truths a × FormulaFits truths b
  FormulaFits truths (rest a by at) = (pos 1 ≤ℤ by) × FormulaFits truths a
  FormulaFits truths (negated a at) = FormulaFits truths a
  FormulaFits truths (denied a at) = IsTruthFormula truths a × FormulaFits truths a
  FormulaFits truths (called f parts at) = (formula_count parts ≡ arity f) × FormulasFit truths parts
  FormulaFits truths (rescaled a from to at) = (from ≤ 6) × (to ≤ 6) × FormulaFits truths a
  FormulaFits truths (chosen c a b at) = IsTruthFormula truths c × FormulaFits truths c × FormulaFits truths a × FormulaFits truths b

  pub FormulasFit : List Bool → Formulas → Type 0
  FormulasFit truths no_formula = Unit {0}
  FormulasFit truths (one_more a more) = FormulaFits truths a × FormulasFit truths more

abbrev mutual
  pub DeedFits : List Bool → ℕ → ℕ → Deed → Type 0
  DeedFits truths locals writes (assigned k a at) = (k < locals) × FormulaFits truths a
  DeedFits truths locals writes (published k a at) = (k < writes) × FormulaFits truths a
  DeedFits truths locals writes (branched c us vs) =
      IsTruthFormula truths c × FormulaFits truths c × DeedsFit truths locals writes us × DeedsFit truths locals writes vs
  DeedFits truths locals writes (repeated n us) = (1 ≤ n) × (n ≤ 1000) × DeedsFit truths locals writes us

  pub DeedsFit : List Bool → ℕ → ℕ → Deeds → Type 0
  DeedsFit truths locals writes no_deed = Unit {0}
  DeedsFit truths locals writes (deed a more) = DeedFits truths locals writes a × DeedsFit truths locals writes more

-- the expressions that are seen so satisfy it
is_truth : (truths : List Bool) (t : Term) → IsTruthFormula truths (formula_view t) → IsTruth truths t
is_truth truths (Number z) h = h
is_truth truths (Place k) h = h
is_truth truths (Binary' op p a q b at) h = h
is_truth truths (Rest' p a by at) h = absurd h
is_truth truths (Neg' p a at) h = absurd h
is_truth truths (Not' p a at) h = tt
is_truth truths (Call' f shape parts at) h = absurd h
is_truth truths (Rescale' p a from to at) h = absurd h
is_truth truths (If' p c q a r b at) h = (is_truth truths a h.0, is_truth truths b h.1)

operate : (truths : List Bool) (op : Op) (a b : Term) → FormulasOperate truths op (formula_view a) (formula_view b) → OperandsFit truths op a b
operate truths Add a b h = tt
operate truths Sub a b h = tt
operate truths Mul a b h = tt
operate truths Div a b h = tt
operate truths Less a b h = tt
operate truths LessEqual a b h = tt
operate truths Greater a b h = tt
operate truths GreaterEqual a b h = tt
operate truths Equal a b h = tt
operate truths NotEqual a b h = tt
operate truths And a b h = (is_truth truths a h.0, is_truth truths b h.1)
operate truths Or a b h = (is_truth truths a h.0, is_truth truths b h.1)

count_is : {m : _} (ts : Row_of-Term m) → formula_count (parts_view ts) ≡ length (items-the_row-Term _ ts)
count_is end_of-Term = refl
count_is (more_of-Term t more) = ap suc (count_is more)

mutual
  pub term_fits : (truths : List Bool) (t : Term) → FormulaFits truths (formula_view t) → TermFits truths t
  term_fits truths (Number z) h = h
  term_fits truths (Place k) h = h
  term_fits truths (Binary' op p a q b at) h = (operate truths op a b h.0, term_fits truths a h.1, term_fits truths b h.2)
  term_fits truths (Rest' p a by at) h = (h.0, term_fits truths a h.1)
  term_fits truths (Neg' p a at) h = term_fits truths a h
  term_fits truths (Not' p a at) h = (is_truth truths a h.0, term_fits truths a h.1)
  term_fits truths (Call' f shape parts at) h = (sym (count_is parts) ∙ h.0, parts_fit truths parts h.1)
  term_fits truths (Rescale' p a from to at) h = (h.0, h.1, term_fits truths a h.2)
  term_fits truths (If' p c q a r b at) h = (is_truth truths c h.0, term_fits truths c h.1, term_fits truths a h.2, term_fits truths b h.3)

  parts_fit : {m : _} (truths : List Bool) (ts : Row_of-Term m) → FormulasFit truths (parts_view ts) → PartsFit truths ts
  parts_fit truths end_of-Term h = tt
  parts_fit truths (more_of-Term t more) h = (term_fits truths t h.0, parts_fit truths more h.1)

mutual
  act_fits : (truths : List Bool) (locals writes : ℕ) (a : Act) → DeedFits truths locals writes (deed_view a) → ActFits truths locals writes a
  act_fits truths locals writes (Assign k t at) h = (h.0, term_fits truths t h.1)
  act_fits truths locals writes (Publish k t at) h = (h.0, term_fits truths t h.1)
  act_fits truths locals writes (IfAct' c m us n vs) h =
      (is_truth truths c h.0, term_fits truths c h.1, row_fits truths locals writes us h.2, row_fits truths locals writes vs h.3)
  act_fits truths locals writes (Repeat' n m us) h = (h.0, h.1, row_fits truths locals writes us h.2)

  row_fits : {m : _} (truths : List Bool) (locals writes : ℕ) (row : Row_of-Act m) → DeedsFit truths locals writes (row_view row)
      → RowFits truths locals writes row
  row_fits truths locals writes end_of-Act h = tt
  row_fits truths locals writes (more_of-Act a more) h = (act_fits truths locals writes a h.0, row_fits truths locals writes more h.1)

pub acts_fit : (truths : List Bool) (locals writes : ℕ) (acts : List Act) → DeedsFit truths locals writes (deeds_view acts) → ActsFit truths locals writes acts
acts_fit truths locals writes [] h = tt
acts_fit truths locals writes (a ∷ more) h = (act_fits truths locals writes a h.0, acts_fit truths locals writes more h.1)
