-- The numbers of declarations among those of their sort, as they are counted.
use Rattle.std.specs.Prelude.{ℕ, ◌+◌, ◌≤◌, List, [], ◌∷◌, length, filter_map, sum_by}
use Rattle.sot_syntax_tree.specs.Trees.{Declaration, a_topic, a_plant, a_node, a_module}
use Rattle.sot_typing.specs.declared.names.numbers.Number.{Number}
use Rattle.sot_typing.specs.declared.names.numbers.SlotCounts.{SlotCounts}
use Rattle.sot_typing.specs.Resolved.{a_topic_of, a_plant_of, a_node_of, a_module_of, scalar_count}

abbrev pub nothing_counted : SlotCounts
nothing_counted = record { topics = 0; scalars = 0; plants = 0; nodes = 0; modules = 0 }

-- one declaration more
abbrev pub counted : SlotCounts → Declaration → SlotCounts
counted c (a_topic t) = record c { topics = c.topics + 1; scalars = c.scalars + scalar_count t }
counted c (a_plant q) = record c { plants = c.plants + 1 }
counted c (a_node n) = record c { nodes = c.nodes + 1 }
counted c (a_module m) = record c { modules = c.modules + 1 }

-- the number of the next declaration
abbrev pub numbered : SlotCounts → Declaration → Number
numbered c (a_topic t) = record { place = c.topics; first = c.scalars }
numbered c (a_plant q) = record { place = c.plants; first = 0 }
numbered c (a_node n) = record { place = c.nodes; first = 0 }
numbered c (a_module m) = record { place = c.modules; first = 0 }

abbrev pub numbers_from : SlotCounts → List Declaration → List Number
numbers_from c [] = []
numbers_from c (d ∷ ds) = numbered c d ∷ numbers_from (counted c d) ds

-- the numbers of declarations, beside them
abbrev pub numbers_of : List Declaration → List Number
numbers_of ds = numbers_from nothing_counted ds

-- with these, nothing is more than a program without faults may have
pub record FitLimits (c : SlotCounts) (ds : List Declaration) : Type 0 where
  pub topics : c.topics + length (filter_map a_topic_of ds) ≤ 512
  pub scalars : c.scalars + sum_by scalar_count (filter_map a_topic_of ds) ≤ 4096
  pub plants : c.plants + length (filter_map a_plant_of ds) ≤ 100
  pub nodes : c.nodes + length (filter_map a_node_of ds) ≤ 300
  pub modules : c.modules + length (filter_map a_module_of ds) ≤ 100

abbrev pub scalars_in : Declaration → ℕ
scalars_in (a_topic t) = scalar_count t
scalars_in _ = 0

-- one declaration more can be counted
pub record HasRoom (c : SlotCounts) (d : Declaration) : Type 0 where
  pub topics : c.topics ≤ 512
  pub scalars : c.scalars + scalars_in d ≤ 4096
  pub plants : c.plants ≤ 100
  pub nodes : c.nodes ≤ 300
  pub modules : c.modules ≤ 100
