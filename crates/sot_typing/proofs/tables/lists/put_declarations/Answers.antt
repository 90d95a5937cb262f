-- Of `put_declarations`: what its calls ask for, that its loop keeps what it says, and its promises.
use Rattle.std.proofs.Common.{refl, map}
use Rattle.std.specs.Prelude.{flat_map}
use Rattle.std.proofs.lemmas.List.{map-append}
use Rattle.sot_rules.specs.Indexes.{program_in}
use Rattle.sot_typing.specs.Resolved.{a_topic_of, a_plant_of, a_node_of, a_module_of, topic_info, topic_scalars, plant_seen, plant_table, node_seen, node_table}
use Rattle.sot_typing.specs.Resolved.{module_info}
use Rattle.sot_typing.proofs.Gathered.{fits_at}
use Rattle.sot_typing.proofs.Listings.{rows_next, rows_done, flat_map_append}
use Rattle.sot_typing.proofs.tables.lists.put_declarations.Goals as goal

pub put_declaration-requires-clause-fits : goal.put_declaration-requires-clause-fits
put_declaration-requires-clause-fits c = fits_at c.args.index.now c.loop-d.d-index c.d-item.result c.requires.fits c.loop-d-test.true c.d-item.is

pub loop-d-preserved : goal.loop-d-preserved
loop-d-preserved c =
    let p = program_in c.args.index.now in
    let ds = c.args.index.now.decls.now in
    let k = c.loop-d.d-index in
    let i = c.loop-d.invariant in
    let l = c.loop-d.lists in
    let e = c.in_ok-put_declaration.ensures in
    let d = c.d-item.result in
    let lt = c.loop-d-test.true in
    record {
      topics = rows_next (λ ts. ts) a_topic_of (map (topic_info p)) (map-append (topic_info p)) refl ds k l.topics.items _ i.topics d lt c.d-item.is _ e.topics;
      scalars =
          rows_next (λ ts. ts) a_topic_of (flat_map (topic_scalars p)) (flat_map_append (topic_scalars p)) refl ds k l.scalars.items _ i.scalars d lt
          c.d-item.is _ e.scalars;
      plants =
          rows_next (map plant_seen) a_plant_of (map (plant_table p)) (map-append (plant_table p)) refl ds k l.plants.items _ i.plants d lt c.d-item.is _
          e.plants;
      nodes = rows_next (map node_seen) a_node_of (map (node_table p)) (map-append (node_table p)) refl ds k l.nodes.items _ i.nodes d lt c.d-item.is _ e.nodes;
      modules =
          rows_next (λ ts. ts) a_module_of (map (module_info p)) (map-append (module_info p)) refl ds k l.modules.items _ i.modules d lt c.d-item.is _
          e.modules;
    }

pub returns : goal.returns
returns c =
    let p = program_in c.args.index.now in
    let ds = c.args.index.now.decls.now in
    let k = c.loop-d.d-index in
    let i = c.loop-d.invariant in
    let l = c.loop-d.lists in
    let le = c.loop-d-test.false in
    record {
      topics = rows_done (λ ts. ts) a_topic_of (map (topic_info p)) (map-append (topic_info p)) refl ds k l.topics.items _ i.topics le;
      scalars = rows_done (λ ts. ts) a_topic_of (flat_map (topic_scalars p)) (flat_map_append (topic_scalars p)) refl ds k l.scalars.items _ i.scalars le;
      plants = rows_done (map plant_seen) a_plant_of (map (plant_table p)) (map-append (plant_table p)) refl ds k l.plants.items _ i.plants le;
      nodes = rows_done (map node_seen) a_node_of (map (node_table p)) (map-append (node_table p)) refl ds k l.nodes.items _ i.nodes le;
      modules = rows_done (λ ts. ts) a_module_of (map (module_info p)) (map-append (module_info p)) refl ds k l.modules.items _ i.modules le;
    }
