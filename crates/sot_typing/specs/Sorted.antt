-- Expressions with places for names, as the code makes them, each with its sort.
use Rattle.std.specs.Prelude.{◌≡◌, ◌≤◌, List, [], ◌∷◌}
use Rattle.sot_lang.specs.declared.term.Term.{Term}
use Rattle.sot_rules.specs.declared.expressions.sort.Sort.{Sort}
use Rattle.sot_typing.specs.declared.code.terms.Sorted.{Sorted}
use Rattle.sot_typing.specs.declared.code.terms.SortedList.{SortedList}
use Rattle.sot_typing.specs.Formulas.{Formula, Formulas, no_formula, one_more, formula_view}
use Rattle.sot_typing.specs.Terms.{sort_scale}

abbrev pub formulas_view : List Term → Formulas
formulas_view [] = no_formula
formulas_view (t ∷ more) = one_more (formula_view t) (formulas_view more)

-- this expression, of this sort, with a count of decimals that tables can hold
pub record IsSorted (f : Formula) (s : Sort) (r : Sorted) : Type 0 where
  pub form : formula_view r.term ≡ f
  pub sort : r.sort ≡ s
  pub decimals : sort_scale r.sort ≤ 255

-- the parts of a call, and the sort that they give it
pub record AreSorted (fs : Formulas) (s : Sort) (r : SortedList) : Type 0 where
  pub form : formulas_view r.terms.items ≡ fs
  pub sort : r.sort ≡ s
  pub decimals : sort_scale r.sort ≤ 255
