-- What the code knows of names: the index of a program's declarations and their numbers.
use Rattle.std.specs.Prelude.{◌≡◌, ℕ, ◌+◌, ◌≤◌, List, length, Some}
use Rattle.std.specs.List.{position_or_len}
use Rattle.sot_lists.specs.Places.{At}
use Rattle.sot_syntax_tree.specs.declared.tree.Ident.{Ident}
use Rattle.sot_syntax_tree.specs.Trees.{Plant, Declaration, a_topic, a_plant, a_node, a_module}
use Rattle.sot_syntax_tree.specs.Trees.{Program}
use Rattle.sot_rules.specs.declared.names.index.Index.{Index}
use Rattle.sot_rules.specs.Indexes.{program_in, IsIndex}
use Rattle.sot_rules.specs.Lists.{are_same}
use Rattle.sot_rules.specs.Names.{meaning}
use Rattle.sot_typing.specs.declared.names.numbers.Number.{Number}
use Rattle.sot_typing.specs.Resolved.{modules, topic_place, plant_place, node_place, first_scalar}
use Rattle.sot_typing.specs.Numbers.{FitLimits, nothing_counted, numbers_of, scalars_in}

-- the index holds its program, the numbers are those of its declarations, and nothing is more than
-- may be
pub record AreNumbers (x : Index) (numbers : List Number) : Type 0 where
  pub index : IsIndex x
  pub are : numbers ≡ numbers_of (program_in x).decls
  pub few : FitLimits nothing_counted (program_in x).decls
  pub narrow : (k : ℕ) (q : Plant) → At (program_in x).decls k (a_plant q) → length q.states ≤ 4

-- the number of a name that means this declaration
abbrev pub number_meant : Program → Ident → Declaration → Number
number_meant p i (a_topic t) =
    record { place = topic_place p i; first = first_scalar p (topic_place p i) }
number_meant p i (a_plant q) = record { place = plant_place p i; first = 0 }
number_meant p i (a_node n) = record { place = node_place p i; first = 0 }
number_meant p i (a_module m) =
    record { place = position_or_len (λ m. are_same i m.name) (modules p); first = 0 }

-- the name means this declaration, which has this number
pub record IsMeant (p : Program) (i : Ident) (d : Declaration) (n : Number) : Type 0 where
  pub meant : meaning p i ≡ Some d
  pub number : n ≡ number_meant p i d
  pub room : n.first + scalars_in d ≤ 4096
  pub narrow : (q : Plant) → d ≡ a_plant q → length q.states ≤ 4
