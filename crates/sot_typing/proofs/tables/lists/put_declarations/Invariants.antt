-- The loop of `put_declarations`: what stands in each list, and then the tables of the declarations that are left.
use Rattle.std.proofs.Common.{◌≡◌, ◌++◌, map, drop}
use Rattle.std.specs.Prelude.{flat_map, filter_map}
use Rattle.sot_syntax_tree.specs.TreeViews.{declaration_view}
use Rattle.sot_rules.specs.Indexes.{program_in}
use Rattle.sot_typing.specs.Resolved.{a_topic_of, a_plant_of, a_node_of, a_module_of, topic_info, topic_scalars, plant_seen, plant_table, node_seen, node_table}
use Rattle.sot_typing.specs.Resolved.{module_info}
use Rattle.sot_typing.proofs.tables.lists.put_declarations.Given as goal

abbrev pub invariant-loop-d : goal.invariant-loop-d
invariant-loop-d l =
    let p = program_in l.index in
    let whole = map declaration_view l.index.decls.now in
    let left = map declaration_view (drop l.d-index l.index.decls.now) in
    record {
      topics : l.lists.topics.items ++ map (topic_info p) (filter_map a_topic_of left) ≡ map (topic_info p) (filter_map a_topic_of whole);
      scalars : l.lists.scalars.items ++ flat_map (topic_scalars p) (filter_map a_topic_of left) ≡ flat_map (topic_scalars p) (filter_map a_topic_of whole);
      plants : map plant_seen l.lists.plants.items ++ map (plant_table p) (filter_map a_plant_of left) ≡ map (plant_table p) (filter_map a_plant_of whole);
      nodes : map node_seen l.lists.nodes.items ++ map (node_table p) (filter_map a_node_of left) ≡ map (node_table p) (filter_map a_node_of whole);
      modules : l.lists.modules.items ++ map (module_info p) (filter_map a_module_of left) ≡ map (module_info p) (filter_map a_module_of whole);
    }
