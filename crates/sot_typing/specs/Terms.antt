-- The expressions and statements of a program with places for names.
use Rattle.std.specs.Prelude.{ℕ, ℤ, pos, Bool, true, false, ◌&&◌, if◌then◌else◌, List, [], ◌∷◌, map}
use Rattle.std.specs.Prelude.{flat_map, Option, Some, None, nat_abs}
use Rattle.std.specs.List.{position_or_len}
use Rattle.std.specs.Str.{bytes_eq}
use Rattle.sot_syntax_tree.specs.declared.tree.Ident.{Ident}
use Rattle.sot_syntax_tree.specs.Trees.{Tree, Trees, number, truth, named, binary, rest, negated}
use Rattle.sot_syntax_tree.specs.Trees.{denied}
use Rattle.sot_syntax_tree.specs.Trees.{called, rescaled, chosen, no_tree, one_more, Statement}
use Rattle.sot_syntax_tree.specs.Trees.{Block}
use Rattle.sot_syntax_tree.specs.Trees.{assigned, published, branched, repeated, no_statement}
use Rattle.sot_syntax_tree.specs.Trees.{statement}
use Rattle.sot_rules.specs.declared.expressions.sort.Sort.{Sort}
use Rattle.sot_rules.specs.declared.expressions.sort.Sort.TheVariants.{Scaled, Truthful, Anything}
use Rattle.sot_rules.specs.Names.{Parts, alone, several, Thing, Scope}
use Rattle.sot_rules.specs.TreeSorts.{sort}
use Rattle.sot_typing.specs.Formulas as to
use Rattle.sot_typing.specs.Formulas.{Formula, Formulas, Deed, Deeds, no_formula, no_deed, deed}

-- one number or truth value as it is named: by one name, or by a name and a field
pub record Reference : Type 0 where
  pub name : List ℕ
  pub field : Option (List ℕ)

abbrev pub parts_references : List ℕ → Parts → List Reference
parts_references name (alone s) = record { name = name; field = None } ∷ []
parts_references name (several parts) = map (λ x. record { name = name; field = Some x.name }) parts

-- all that some things are, in order: this is the order of places
abbrev pub references : List Thing → List Reference
references things = flat_map (λ x. parts_references x.name x.parts) things

abbrev pub are_both : Option Ident → Option (List ℕ) → Bool
are_both None None = true
are_both None (Some f) = false
are_both (Some i) None = false
are_both (Some i) (Some f) = bytes_eq i.name f

abbrev pub is_meant : Ident → Option Ident → Reference → Bool
is_meant first field r = bytes_eq first.name r.name && are_both field r.field

-- the place of what is named so
abbrev pub place_of : List Thing → Ident → Option Ident → ℕ
place_of things first field = position_or_len (is_meant first field) (references things)

abbrev pub truth_number : Bool → ℤ
truth_number b = if b then pos 1 else pos 0

abbrev pub sort_scale : Sort → ℕ
sort_scale (Scaled s) = s
sort_scale Truthful = 0
sort_scale Anything = 0

-- a literal is its mantissa, a truth value 0 or 1, a name its place; `rescale` tells the scale that
-- its operand has
abbrev mutual
  pub formula_of : List Thing → Tree → Formula
  formula_of names (number l) = to.number l.mantissa
  formula_of names (truth b at) = to.number (truth_number b)
  formula_of names (named first field) = to.place (place_of names first field)
  formula_of names (binary op a b at) = to.binary op (formula_of names a) (formula_of names b) at
  formula_of names (rest a by at) = to.rest (formula_of names a) by.mantissa at
  formula_of names (negated a at) = to.negated (formula_of names a) at
  formula_of names (denied a at) = to.denied (formula_of names a) at
  formula_of names (called f parts at) = to.called f (formulas_of names parts) at
  formula_of names (rescaled a d at) =
      to.rescaled (formula_of names a) (sort_scale (sort names a)) (nat_abs d.mantissa) at
  formula_of names (chosen c a b at) =
      to.chosen (formula_of names c) (formula_of names a) (formula_of names b) at

  pub formulas_of : List Thing → Trees → Formulas
  formulas_of names no_tree = no_formula
  formulas_of names (one_more e more) = to.one_more (formula_of names e) (formulas_of names more)

-- an assignment names a local by its place, a publication a scalar by its place among those that
-- are written
abbrev mutual
  pub deed_of : Scope → Statement → Deed
  deed_of s (assigned target e) =
      to.assigned (place_of s.local target None) (formula_of s.read e) target.at
  deed_of s (published topic field e) =
      to.published (place_of s.written topic field) (formula_of s.read e) topic.at
  deed_of s (branched c taken other at) =
      to.branched (formula_of s.read c) (deeds_of s taken) (deeds_of s other)
  deed_of s (repeated times body at) = to.repeated (nat_abs times.mantissa) (deeds_of s body)

  pub deeds_of : Scope → Block → Deeds
  deeds_of s no_statement = no_deed
  deeds_of s (statement a more) = deed (deed_of s a) (deeds_of s more)
