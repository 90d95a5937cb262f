-- The table of a plant or of a node whose lists were empty, and are filled.
use Rattle.std.proofs.Common.{◌≡◌, ◌++◌, ◌∙◌, ℕ, List, map, ap}
use Rattle.std.specs.Prelude.{flat_map}
use Rattle.sot_lang.specs.declared.tables.PlantInfo.{PlantInfo}
use Rattle.sot_lang.specs.declared.tables.NodeInfo.{NodeInfo}
use Rattle.sot_lang.specs.declared.tables.StateInfo.{StateInfo}
use Rattle.sot_lang.specs.declared.tables.NoiseInfo.{NoiseInfo}
use Rattle.sot_lang.specs.declared.tables.LocalInfo.{LocalInfo}
use Rattle.sot_lang.specs.declared.tables.Slot.{Slot}
use Rattle.sot_syntax_tree.specs.Trees.{Next, Plant, Node, Program}
use Rattle.sot_rules.specs.Names.{plant_scope}
use Rattle.sot_typing.specs.Formulas.{Formula, formula_view}
use Rattle.sot_typing.specs.Terms.{formula_of}
use Rattle.sot_typing.specs.Resolved.{PlantTable, NodeTable, state_info, noise_info, local_info, scalars_meant, slots_meant, plant_place, plant_seen}
use Rattle.sot_typing.specs.Resolved.{plant_table, node_seen, node_table}
use Rattle.sot_typing.specs.TableLists.{bare_plant, bare_node}

abbrev with_parts : PlantTable → List StateInfo → List ℕ → List ℕ → List NoiseInfo → List Formula → PlantTable
with_parts t states inputs sees noise next = record t { states = states; inputs = inputs; sees = sees; noise = noise; next = next }

abbrev with_lists : NodeTable → List Slot → List ℕ → List LocalInfo → NodeTable
with_lists t reads writes locals = record t { reads = reads; writes = writes; locals = locals }

pub plant_filled : (p : Program) (q : Plant) (o : PlantInfo) (states : List StateInfo) (inputs sees : List ℕ) (noise : List NoiseInfo) (next : List Formula)
    → plant_seen o ≡ bare_plant p q → states ≡ o.states.items ++ map state_info q.states → inputs ≡ o.inputs.items ++ flat_map (scalars_meant p) q.inputs
    → sees ≡ o.sees.items ++ map (plant_place p) q.sees → noise ≡ o.noise.items ++ map noise_info q.noise
    → next ≡ map formula_view o.next.items ++ map (λ (x : Next). formula_of (plant_scope p q) x.value) q.next
    → with_parts (plant_seen o) states inputs sees noise next ≡ plant_table p q
plant_filled p q o states inputs sees noise next bare a b c d e =
    let these : states ≡ map state_info q.states = a ∙ ap (λ t. t.states ++ map state_info q.states) bare in
    let taken : inputs ≡ flat_map (scalars_meant p) q.inputs = b ∙ ap (λ t. t.inputs ++ flat_map (scalars_meant p) q.inputs) bare in
    let seen : sees ≡ map (plant_place p) q.sees = c ∙ ap (λ t. t.sees ++ map (plant_place p) q.sees) bare in
    let swayed : noise ≡ map noise_info q.noise = d ∙ ap (λ t. t.noise ++ map noise_info q.noise) bare in
    let values : next ≡ map (λ (x : Next). formula_of (plant_scope p q) x.value) q.next = e
    ∙ ap (λ t. t.next ++ map (λ (x : Next). formula_of (plant_scope p q) x.value) q.next) bare in
    ap (λ t. with_parts t states inputs sees noise next) bare
    ∙ ap (λ z. with_parts (plant_table p q) z inputs sees noise next) these
    ∙ ap (λ z. with_parts (plant_table p q) (map state_info q.states) z sees noise next) taken
    ∙ ap (λ z. with_parts (plant_table p q) (map state_info q.states) (flat_map (scalars_meant p) q.inputs) z noise next) seen
    ∙ ap (λ z. with_parts (plant_table p q) (map state_info q.states) (flat_map (scalars_meant p) q.inputs) (map (plant_place p) q.sees) z next) swayed
    ∙ ap (λ z. with_parts (plant_table p q) (map state_info q.states) (flat_map (scalars_meant p) q.inputs) (map (plant_place p) q.sees)
    (map noise_info q.noise) z) values

pub node_filled : (p : Program) (x : Node) (o : NodeInfo) (reads : List Slot) (writes : List ℕ) (locals : List LocalInfo) → node_seen o ≡ bare_node p x
    → reads ≡ o.reads.items ++ flat_map (slots_meant p) x.reads → writes ≡ o.writes.items ++ flat_map (scalars_meant p) x.writes
    → locals ≡ o.locals.items ++ map local_info x.locals → with_lists (node_seen o) reads writes locals ≡ node_table p x
node_filled p x o reads writes locals bare a b c =
    let these : reads ≡ flat_map (slots_meant p) x.reads = a ∙ ap (λ t. t.reads ++ flat_map (slots_meant p) x.reads) bare in
    let written : writes ≡ flat_map (scalars_meant p) x.writes = b ∙ ap (λ t. t.writes ++ flat_map (scalars_meant p) x.writes) bare in
    let own : locals ≡ map local_info x.locals = c ∙ ap (λ t. t.locals ++ map local_info x.locals) bare in
    ap (λ t. with_lists t reads writes locals) bare
    ∙ ap (λ z. with_lists (node_table p x) z writes locals) these
    ∙ ap (λ z. with_lists (node_table p x) (flat_map (slots_meant p) x.reads) z locals) written
    ∙ ap (λ z. with_lists (node_table p x) (flat_map (slots_meant p) x.reads) (flat_map (scalars_meant p) x.writes) z) own
