-- The expressions and statements of tables, without where their parts lie in memory.
use Rattle.std.specs.Prelude.{ℕ, ℤ, List, [], ◌∷◌}
use Rattle.sot_text.specs.declared.token.Span.{Span}
use Rattle.sot_syntax_tree.specs.declared.operator.Op.{Op}
use Rattle.sot_syntax_tree.specs.declared.operator.Func.{Func}
use Rattle.sot_lang.specs.declared.term.Term.{Term, Row_of-Term, end_of-Term, more_of-Term}
use Rattle.sot_lang.specs.declared.term.Term.TheVariants.{Number, Place, Binary', Rest', Neg', Not'}
use Rattle.sot_lang.specs.declared.term.Term.TheVariants.{Call', Rescale', If'}
use Rattle.sot_lang.specs.declared.act.Act.{Act, Row_of-Act, end_of-Act, more_of-Act}
use Rattle.sot_lang.specs.declared.act.Act.TheVariants.{Assign, Publish, If' as IfAct', Repeat'}

-- an expression whose names are places
mutual
  pub data Formula : Type 0 where
    number : ℤ → Formula
    place : ℕ → Formula
    binary : Op → Formula → Formula → Span → Formula
    rest : Formula → ℤ → Span → Formula
    negated : Formula → Span → Formula
    denied : Formula → Span → Formula
    called : Func → Formulas → Span → Formula
    rescaled : Formula → ℕ → ℕ → Span → Formula
    chosen : Formula → Formula → Formula → Span → Formula

  pub data Formulas : Type 0 where
    no_formula : Formulas
    one_more : Formula → Formulas → Formulas

-- a statement whose targets are places
mutual
  pub data Deed : Type 0 where
    assigned : ℕ → Formula → Span → Deed
    published : ℕ → Formula → Span → Deed
    branched : Formula → Deeds → Deeds → Deed
    repeated : ℕ → Deeds → Deed

  pub data Deeds : Type 0 where
    no_deed : Deeds
    deed : Deed → Deeds → Deeds

abbrev mutual
  pub formula_view : Term → Formula
  formula_view (Number z) = number z
  formula_view (Place k) = place k
  formula_view (Binary' op p a q b at) = binary op (formula_view a) (formula_view b) at
  formula_view (Rest' p a by at) = rest (formula_view a) by at
  formula_view (Neg' p a at) = negated (formula_view a) at
  formula_view (Not' p a at) = denied (formula_view a) at
  formula_view (Call' f shape parts at) = called f (parts_view parts) at
  formula_view (Rescale' p a from to at) = rescaled (formula_view a) from to at
  formula_view (If' p c q a r b at) = chosen (formula_view c) (formula_view a) (formula_view b) at

  pub parts_view : {m : _} → Row_of-Term m → Formulas
  parts_view end_of-Term = no_formula
  parts_view (more_of-Term t more) = one_more (formula_view t) (parts_view more)

abbrev mutual
  pub deed_view : Act → Deed
  deed_view (Assign k t at) = assigned k (formula_view t) at
  deed_view (Publish k t at) = published k (formula_view t) at
  deed_view (IfAct' c m us n vs) = branched (formula_view c) (row_view us) (row_view vs)
  deed_view (Repeat' n m us) = repeated n (row_view us)

  pub row_view : {m : _} → Row_of-Act m → Deeds
  row_view end_of-Act = no_deed
  row_view (more_of-Act a more) = deed (deed_view a) (row_view more)

-- statements whose targets are places
abbrev pub deeds_view : List Act → Deeds
deeds_view [] = no_deed
deeds_view (a ∷ more) = deed (deed_view a) (deeds_view more)
