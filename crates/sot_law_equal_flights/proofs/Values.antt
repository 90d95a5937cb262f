-- The value of an expression does not depend on where its parts lie in memory.
use Rattle.std.proofs.Common.{◌≡◌, ℤ, pos, List, [], ◌∷◌, map, Ok, refl}
use Rattle.std.specs.Prelude.{◌-ℤ◌, ◌*ℤ◌, neg_ℤ, not, slice_index_or}
use Rattle.sot_lang.specs.declared.term.Term.{Term, Row_of-Term, end_of-Term, more_of-Term}
use Rattle.sot_lang.specs.declared.term.Term.TheVariants.{Number, Place, Binary', Rest', Neg', Not', Call', Rescale', If'}
use Rattle.sot_lang.specs.Values.{Outcome, word, truth, is_true, floor_div, apply, then_with, both, branch, value_of, values_of_parts}
use Rattle.sot_lang.specs.Values as meant
use Rattle.sot_lang.specs.Ticks.{values}
use Rattle.sot_typing.specs.Formulas.{Formula, number, place, binary, rest, negated, denied, called, rescaled, chosen, Formulas, no_formula, one_more}
use Rattle.sot_typing.specs.Formulas.{formula_view, parts_view}

-- the value of an expression without memory
abbrev mutual
  pub formula_value : Formula → List ℤ → Outcome ℤ
  formula_value (number z) env = Ok z
  formula_value (place n) env = Ok (slice_index_or env n (pos 0))
  formula_value (binary op a b at) env = both (apply op at) (formula_value a env) (formula_value b env)
  formula_value (rest a by at) env = then_with (formula_value a env) (λ x. Ok (x -ℤ (by *ℤ floor_div x by)))
  formula_value (negated a at) env = then_with (formula_value a env) (λ x. word at (neg_ℤ x))
  formula_value (denied a at) env = then_with (formula_value a env) (λ x. Ok (truth (not (is_true x))))
  formula_value (called f parts at) env = then_with (formula_values parts env) (meant.called f at)
  formula_value (rescaled a from to at) env = then_with (formula_value a env) (meant.rescaled at from to)
  formula_value (chosen c a b at) env = branch (formula_value c env) (formula_value a env) (formula_value b env)

  pub formula_values : Formulas → List ℤ → Outcome (List ℤ)
  formula_values no_formula env = Ok []
  formula_values (one_more t more) env = meant.one_more (formula_value t env) (formula_values more env)

-- the same of a list
abbrev pub view_values : List Formula → List ℤ → Outcome (List ℤ)
view_values [] env = Ok []
view_values (t ∷ ts) env = meant.one_more (formula_value t env) (view_values ts env)

-- an expression has the value of what it looks like
mutual
  pub value_view : (t : Term) (env : List ℤ) → value_of t env ≡ formula_value (formula_view t) env
  value_view (Number z) env = refl
  value_view (Place n) env = refl
  value_view (Binary' op p a q b at) env = λ i. both (apply op at) (value_view a env i) (value_view b env i)
  value_view (Rest' p a by at) env = λ i. then_with (value_view a env i) (λ x. Ok (x -ℤ (by *ℤ floor_div x by)))
  value_view (Neg' p a at) env = λ i. then_with (value_view a env i) (λ x. word at (neg_ℤ x))
  value_view (Not' p a at) env = λ i. then_with (value_view a env i) (λ x. Ok (truth (not (is_true x))))
  value_view (Call' f shape parts at) env = λ i. then_with (parts_value parts env i) (meant.called f at)
  value_view (Rescale' p a from to at) env = λ i. then_with (value_view a env i) (meant.rescaled at from to)
  value_view (If' p c q a r b at) env = λ i. branch (value_view c env i) (value_view a env i) (value_view b env i)

  parts_value : {m : _} (ts : Row_of-Term m) (env : List ℤ) → values_of_parts ts env ≡ formula_values (parts_view ts) env
  parts_value end_of-Term env = refl
  parts_value (more_of-Term t more) env = λ i. meant.one_more (value_view t env i) (parts_value more env i)

pub values_view : (ts : List Term) (env : List ℤ) → values ts env ≡ view_values (map formula_view ts) env
values_view [] env = refl
values_view (t ∷ ts) env = λ i. meant.one_more (value_view t env i) (values_view ts env i)
