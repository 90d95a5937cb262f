-- Expressions and statements with places for names are made of what stands nowhere in a text as of what stands somewhere.
use Rattle.std.proofs.Common.{◌≡◌, ℕ, List, Option, Some, None, option_map, nat_abs, ◌&&◌, refl, ap}
use Rattle.std.specs.List.{position_or_len}
use Rattle.std.specs.Str.{bytes_eq}
use Rattle.sot_syntax_tree.specs.declared.tree.Ident.{Ident}
use Rattle.sot_syntax_tree.specs.Trees.{Tree, Trees, number, truth, named, binary, rest, negated, denied, called, rescaled, chosen, no_tree, one_more, Statement}
use Rattle.sot_syntax_tree.specs.Trees.{Block, assigned, published, branched, repeated, no_statement, statement}
use Rattle.sot_rules.specs.Names.{Thing, Scope}
use Rattle.sot_typing.specs.Formulas as to
use Rattle.sot_typing.specs.Formulas.{deed}
use Rattle.sot_typing.specs.Terms.{Reference, references, are_both, place_of, sort_scale, formula_of, formulas_of, deed_of, deeds_of}
use Rattle.sot_law_print_parse.specs.Unplaced.{nowhere, unplaced_name, unplaced_tree, unplaced_trees, unplaced_statement, unplaced_block}
use Rattle.sot_law_equal_tables.specs.UnplacedTables.{unplaced_formula, unplaced_formulas, unplaced_deed, unplaced_deeds}
use Rattle.sot_law_equal_tables.proofs.Names.{sort_same}

both_same : (field : Option Ident) (name : Option (List ℕ)) → are_both (option_map unplaced_name field) name ≡ are_both field name
both_same None None = refl
both_same None (Some f) = refl
both_same (Some i) None = refl
both_same (Some i) (Some f) = refl

pub place_of_same : (things : List Thing) (first : Ident) (field : Option Ident)
    → place_of things (unplaced_name first) (option_map unplaced_name field) ≡ place_of things first field
place_of_same things first field = λ j. position_or_len (λ (r : Reference). bytes_eq first.name r.name && both_same field r.field j) (references things)

mutual
  pub formula_same : (names : List Thing) (e : Tree) → formula_of names (unplaced_tree e) ≡ unplaced_formula (formula_of names e)
  formula_same names (number l) = refl
  formula_same names (truth b at) = refl
  formula_same names (named first field) = ap to.place (place_of_same names first field)
  formula_same names (binary op a b at) = λ j. to.binary op (formula_same names a j) (formula_same names b j) nowhere
  formula_same names (rest a by at) = λ j. to.rest (formula_same names a j) by.mantissa nowhere
  formula_same names (negated a at) = λ j. to.negated (formula_same names a j) nowhere
  formula_same names (denied a at) = λ j. to.denied (formula_same names a j) nowhere
  formula_same names (called f parts at) = λ j. to.called f (formulas_same names parts j) nowhere
  formula_same names (rescaled a d at) = λ j. to.rescaled (formula_same names a j) (sort_scale (sort_same names a j)) (nat_abs d.mantissa) nowhere
  formula_same names (chosen c a b at) = λ j. to.chosen (formula_same names c j) (formula_same names a j) (formula_same names b j) nowhere

  formulas_same : (names : List Thing) (es : Trees) → formulas_of names (unplaced_trees es) ≡ unplaced_formulas (formulas_of names es)
  formulas_same names no_tree = refl
  formulas_same names (one_more e more) = λ j. to.one_more (formula_same names e j) (formulas_same names more j)

mutual
  deed_same : (s : Scope) (a : Statement) → deed_of s (unplaced_statement a) ≡ unplaced_deed (deed_of s a)
  deed_same s (assigned target e) = λ j. to.assigned (place_of_same s.local target None j) (formula_same s.read e j) nowhere
  deed_same s (published topic field e) = λ j. to.published (place_of_same s.written topic field j) (formula_same s.read e j) nowhere
  deed_same s (branched c taken other at) = λ j. to.branched (formula_same s.read c j) (deeds_same s taken j) (deeds_same s other j)
  deed_same s (repeated times body at) = λ j. to.repeated (nat_abs times.mantissa) (deeds_same s body j)

  pub deeds_same : (s : Scope) (b : Block) → deeds_of s (unplaced_block b) ≡ unplaced_deeds (deeds_of s b)
  deeds_same s no_statement = refl
  deeds_same s (statement a more) = λ j. deed (deed_same s a j) (deeds_same s more j)
