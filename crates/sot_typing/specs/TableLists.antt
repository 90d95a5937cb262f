-- The lists of a program's tables, as the code fills them.
use Rattle.std.specs.Prelude.{◌≡◌, [], map, flat_map}
use Rattle.sot_syntax_tree.specs.Trees.{Plant, Node, Program}
use Rattle.sot_typing.specs.declared.tables.lists.Lists.{Lists}
use Rattle.sot_typing.specs.Resolved as tables
use Rattle.sot_typing.specs.Resolved.{PlantTable, NodeTable, topic_info, topic_scalars, plant_seen}
use Rattle.sot_typing.specs.Resolved.{plant_table, node_seen, node_table, module_info}

pub record AreEmpty (l : Lists) : Type 0 where
  pub topics : l.topics.items ≡ []
  pub scalars : l.scalars.items ≡ []
  pub plants : l.plants.items ≡ []
  pub nodes : l.nodes.items ≡ []
  pub modules : l.modules.items ≡ []

-- these are the lists of the program
pub record AreLists (p : Program) (l : Lists) : Type 0 where
  pub topics : l.topics.items ≡ map (topic_info p) (tables.topics p)
  pub scalars : l.scalars.items ≡ flat_map (topic_scalars p) (tables.topics p)
  pub plants : map plant_seen l.plants.items ≡ map (plant_table p) (tables.plants p)
  pub nodes : map node_seen l.nodes.items ≡ map (node_table p) (tables.nodes p)
  pub modules : l.modules.items ≡ map (module_info p) (tables.modules p)

-- the tables of a plant and of a node, before their lists are filled
abbrev pub bare_plant : Program → Plant → PlantTable
bare_plant p q =
    record (plant_table p q) { states = []; inputs = []; sees = []; noise = []; next = [] }

abbrev pub bare_node : Program → Node → NodeTable
bare_node p n = record (node_table p n) { reads = []; writes = []; locals = [] }
