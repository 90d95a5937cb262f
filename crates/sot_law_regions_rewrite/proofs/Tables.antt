-- The tables of a program with other regions.
use Rattle.std.proofs.Common.{◌≡◌, ℕ, suc, List, [], ◌∷◌, map, length, take, zip, Option, Some, option_map, filter_map, flat_map, sum_by, refl, sym, ap}
use Rattle.std.proofs.Common.{ap₂, ◌∙◌, subst, arith}
use Rattle.std.specs.Prelude.{true, nat_abs}
use Rattle.std.specs.List.{position_or_len}
use Rattle.std.proofs.lemmas.Option.{none-some}
use Rattle.sot_lists.specs.Places.{At}
use Rattle.sot_lists.proofs.Places.{at_same, at_map}
use Rattle.sot_box.specs.Sides.{Side}
use Rattle.sot_box.specs.BoxList.{BoxList}
use Rattle.sot_syntax_tree.specs.declared.tree.Ident.{Ident}
use Rattle.sot_syntax_tree.specs.declared.tree.Bounds.{Bounds}
use Rattle.sot_syntax_tree.specs.Trees.{Topic, Plant, Node, Area, Module, Declaration, a_topic, a_plant, a_node, a_module, Program}
use Rattle.sot_lang.specs.declared.tables.Slot.{Slot}
use Rattle.sot_lang.specs.declared.tables.Slot.TheVariants.{Scalar as ScalarSlot, State}
use Rattle.sot_lang.specs.declared.tables.ModuleInfo.{ModuleInfo}
use Rattle.sot_lang.specs.Tables.{Tables}
use Rattle.sot_rules.specs.Names.{meaning}
use Rattle.sot_rules.specs.Lists.{are_same}
use Rattle.sot_rules.specs.Tests.{starts}
use Rattle.sot_typing.specs.Terms.{formula_of, deeds_of}
use Rattle.sot_typing.specs.Resolved.{a_topic_of, a_plant_of, a_node_of, a_module_of, topics, plants, nodes, modules, topic_place, plant_place, node_place}
use Rattle.sot_typing.specs.Resolved.{scalar_count, first_scalar, counted_from, scalars_meant, slots_meant, topic_info, field_names, scalar_info, topic_scalars}
use Rattle.sot_typing.specs.Resolved.{state_info, noise_info, plant_table, local_info, node_table, side_of, state_count, module_info, tables_of}
use Rattle.sot_typing.specs.Resolved.{ProgramTables, AreTables}
use Rattle.sot_regions_rewrite.specs.declared.modules.ModuleRegions.{ModuleRegions}
use Rattle.sot_regions_rewrite.specs.OtherRegions.{bounds_like, area_like, areas_like, module_with, declarations_with, with_regions}
use Rattle.sot_law_regions_rewrite.specs.Fitting.{IsLike, Fits, FitsModule, AreFitting}
use Rattle.sot_law_regions_rewrite.specs.WithoutRegions.{bare_module, bare, AreSameButForRegions}
use Rattle.sot_law_regions_rewrite.specs.OtherTables.{info_with, infos_with, tables_with}
use Rattle.sot_law_regions_rewrite.specs.Laws.{TablesHaveTheRegions}
use Rattle.sot_law_regions_rewrite.proofs.Formed.{like_first}
use Rattle.sot_law_regions_rewrite.proofs.Names.{nothing_else, filter_bare, by_bare, told, node_scope_same, plant_scope_same}

topic_of_bare : (d : Declaration) → a_topic_of (bare d) ≡ a_topic_of d
topic_of_bare (a_topic t) = refl
topic_of_bare (a_plant q) = refl
topic_of_bare (a_node n) = refl
topic_of_bare (a_module m) = refl

plant_of_bare : (d : Declaration) → a_plant_of (bare d) ≡ a_plant_of d
plant_of_bare (a_topic t) = refl
plant_of_bare (a_plant q) = refl
plant_of_bare (a_node n) = refl
plant_of_bare (a_module m) = refl

node_of_bare : (d : Declaration) → a_node_of (bare d) ≡ a_node_of d
node_of_bare (a_topic t) = refl
node_of_bare (a_plant q) = refl
node_of_bare (a_node n) = refl
node_of_bare (a_module m) = refl

modules_bare : (ds : List Declaration) → map bare_module (filter_map a_module_of ds) ≡ filter_map a_module_of (map bare ds)
modules_bare [] = refl
modules_bare (a_topic t ∷ ds) = modules_bare ds
modules_bare (a_plant q ∷ ds) = modules_bare ds
modules_bare (a_node n ∷ ds) = modules_bare ds
modules_bare (a_module m ∷ ds) = ap (λ (ms : List Module). bare_module m ∷ ms) (modules_bare ds)

-- what a name stands for, by what it means
abbrev counted : ℕ → Option Declaration → List ℕ
counted k m = elim m as (λ x. List ℕ) [
  | Some (a_topic t) ↦ counted_from k (scalar_count t)
  | _ ↦ []
]

abbrev slotted : List ℕ → ℕ → Option Declaration → List Slot
slotted ks place m = elim m as (λ x. List Slot) [
  | Some (a_topic t) ↦ map (λ k. ScalarSlot k) ks
  | Some (a_plant q) ↦ map (λ v. State place v) (counted_from 0 (length q.states))
  | _ ↦ []
]

abbrev states_counted : Option Declaration → ℕ
states_counted m = elim m as (λ x. ℕ) [ Some (a_plant q) ↦ length q.states | _ ↦ 0 ]

module _ (p q : Program) (same : AreSameButForRegions p q) where
  topics_same : topics q ≡ topics p
  topics_same = by_bare p q same topics (λ x. filter_bare a_topic_of topic_of_bare x.decls)

  plants_same : plants q ≡ plants p
  plants_same = by_bare p q same plants (λ x. filter_bare a_plant_of plant_of_bare x.decls)

  nodes_same : nodes q ≡ nodes p
  nodes_same = by_bare p q same nodes (λ x. filter_bare a_node_of node_of_bare x.decls)

  topic_place_same : (i : Ident) → topic_place q i ≡ topic_place p i
  topic_place_same i = ap (position_or_len (λ (t : Topic). are_same i t.name)) topics_same

  pub plant_place_same : (i : Ident) → plant_place q i ≡ plant_place p i
  plant_place_same i = ap (position_or_len (λ (k : Plant). are_same i k.name)) plants_same

  pub node_place_same : (i : Ident) → node_place q i ≡ node_place p i
  node_place_same i = ap (position_or_len (λ (n : Node). are_same i n.name)) nodes_same

  first_same : (i : Ident) → first_scalar q (topic_place q i) ≡ first_scalar p (topic_place p i)
  first_same i = λ j. sum_by scalar_count (take (topic_place_same i j) (topics_same j))

  scalars_same : (i : Ident) → scalars_meant q i ≡ scalars_meant p i
  scalars_same i =
      ap (λ k. counted k (meaning q i)) (first_same i) ∙ told p q same (counted (first_scalar p (topic_place p i))) (λ m. refl) i

  slots_same : (i : Ident) → slots_meant q i ≡ slots_meant p i
  slots_same i =
      (λ j. slotted (scalars_same i j) (plant_place_same i j) (meaning q i)) ∙ told p q same (slotted (scalars_meant p i) (plant_place p i)) (λ m. refl) i

  state_count_same : (i : Ident) → state_count q i ≡ state_count p i
  state_count_same i = told p q same states_counted (λ m. refl) i

  topic_info_same : (t : Topic) → topic_info q t ≡ topic_info p t
  topic_info_same t = λ j. record { name = t.name.name; outside = t.outside; first = first_same t.name j; count = scalar_count t }

  topic_scalars_same : (t : Topic) → topic_scalars q t ≡ topic_scalars p t
  topic_scalars_same t = λ j. map (λ x. scalar_info (topic_place_same t.name j) x.0 x.1.0 x.1.1) (zip (field_names t.shape) (starts t))

  plant_table_same : (k : Plant) → plant_table q k ≡ plant_table p k
  plant_table_same k = λ j. record {
    name = k.name.name;
    states = map state_info k.states;
    inputs = flat_map (λ i. scalars_same i j) k.inputs;
    sees = map (λ i. plant_place_same i j) k.sees;
    noise = map noise_info k.noise;
    next = map (λ n. formula_of (plant_scope_same p q same k j) n.value) k.next;
  }

  node_table_same : (n : Node) → node_table q n ≡ node_table p n
  node_table_same n = λ j. record {
    name = n.name.name;
    period = nat_abs n.period.mantissa;
    offset = nat_abs n.offset.mantissa;
    reads = flat_map (λ i. slots_same i j) n.reads;
    writes = flat_map (λ i. scalars_same i j) n.writes;
    locals = map local_info n.locals;
    body = option_map (deeds_of (node_scope_same p q same n j)) n.body;
  }

  -- the tables of what is no module
  topic_tables_same : map (topic_info q) (topics q) ≡ map (topic_info p) (topics p)
  topic_tables_same = λ j. map (λ t. topic_info_same t j) (topics_same j)

  scalar_tables_same : flat_map (topic_scalars q) (topics q) ≡ flat_map (topic_scalars p) (topics p)
  scalar_tables_same = λ j. flat_map (λ t. topic_scalars_same t j) (topics_same j)

  plant_tables_same : map (plant_table q) (plants q) ≡ map (plant_table p) (plants p)
  plant_tables_same = λ j. map (λ k. plant_table_same k j) (plants_same j)

  node_tables_same : map (node_table q) (nodes q) ≡ map (node_table p) (nodes p)
  node_tables_same = λ j. map (λ n. node_table_same n j) (nodes_same j)

  -- so with other modules the tables of the one are those of the other
  pub with_modules : (t : Tables) → AreTables p t → AreTables q (record t { modules = map (module_info q) (modules q) })
  unfolding tables_of
  with_modules t of_p = λ j. record {
    topics = (ap (λ (s : ProgramTables). s.topics) of_p ∙ sym topic_tables_same) j;
    scalars = (ap (λ (s : ProgramTables). s.scalars) of_p ∙ sym scalar_tables_same) j;
    plants = (ap (λ (s : ProgramTables). s.plants) of_p ∙ sym plant_tables_same) j;
    nodes = (ap (λ (s : ProgramTables). s.nodes) of_p ∙ sym node_tables_same) j;
    modules = map (module_info q) (modules q);
  }

  pub bare_modules : map bare_module (modules p) ≡ map bare_module (modules q)
  bare_modules = modules_bare p.decls ∙ ap (λ (x : Program). filter_map a_module_of x.decls) same ∙ sym (modules_bare q.decls)

  -- modules at one place are the same but for their regions
  pub bare_at : (m : ℕ) (x y : Module) → At (modules p) m x → At (modules q) m y → bare_module x ≡ bare_module y
  bare_at m x y at_x at_y =
      at_same (map bare_module (modules q)) m (bare_module x) (bare_module y)
      (subst (λ (l : List Module). At l m (bare_module x)) bare_modules (at_map bare_module (modules p) m x at_x))
      (at_map bare_module (modules q) m y at_y)

-- ---- modules

boxes_with : (gs : List Bounds) (box : List Side) → length box ≡ length gs → map side_of (map (λ x. bounds_like x.0 x.1) (zip gs box)) ≡ box
boxes_with [] [] wide = refl
boxes_with [] (r ∷ rs) wide = absurd (omega (arith, wide))
boxes_with (g ∷ gs) [] wide = absurd (omega (arith, wide))
boxes_with (g ∷ gs) (r ∷ rs) wide = ap (λ (xs : List Side). r ∷ xs) (boxes_with gs rs (omega (arith, wide)))

all_with : (a : Area) (found : List (List Side)) → ((i : ℕ) (box : List Side) → At found i box → IsLike a box)
    → map (λ (x : Area). map side_of x.sides) (map (area_like a) found) ≡ found
all_with a [] like = refl
all_with a (box ∷ more) like = ap₂ (λ (x : List Side) (xs : List (List Side)). x ∷ xs) (boxes_with a.sides box (like 0 box refl).width)
    (all_with a more (λ i. like (suc i)))

none_like : (found : List (List Side)) → ((i : ℕ) (box : List Side) → At found i box → ⊥) → [] ≡ found
none_like [] none = refl
none_like (box ∷ more) none = absurd (none 0 box refl)

areas_with : (given : List Area) (region : BoxList) → Fits given region
    → map (λ (x : Area). map side_of x.sides) (areas_like given region.boxes) ≡ region.boxes
areas_with [] region fits = none_like region.boxes (λ i box at. none-some (fits.each i box at).0 (fits.each i box at).1)
areas_with (a ∷ others) region fits = all_with a region.boxes (like_first a others region fits)

-- the modules of a tree, with these regions
abbrev modules_with : List ModuleRegions → List Module → List Module
modules_with regions [] = []
modules_with [] (m ∷ ms) = m ∷ ms
modules_with (regions ∷ later) (m ∷ ms) = module_with regions m ∷ modules_with later ms

-- regions that fit
abbrev FitModules : List ModuleRegions → List Module → Type 0
FitModules regions [] = Unit {0}
FitModules [] (m ∷ ms) = Unit {0}
FitModules (regions ∷ later) (m ∷ ms) = FitsModule m regions × FitModules later ms

none_left : (ms : List Module) → modules_with [] ms ≡ ms
none_left [] = refl
none_left (m ∷ ms) = refl

modules_are : (regions : List ModuleRegions) (ds : List Declaration)
    → filter_map a_module_of (declarations_with regions ds) ≡ modules_with regions (filter_map a_module_of ds)
modules_are regions [] = refl
modules_are [] (a_topic t ∷ ds) = modules_are [] ds
modules_are [] (a_plant q ∷ ds) = modules_are [] ds
modules_are [] (a_node n ∷ ds) = modules_are [] ds
modules_are [] (a_module m ∷ ds) = ap (λ (ms : List Module). m ∷ ms) (modules_are [] ds ∙ none_left (filter_map a_module_of ds))
modules_are (r ∷ later) (a_topic t ∷ ds) = modules_are (r ∷ later) ds
modules_are (r ∷ later) (a_plant q ∷ ds) = modules_are (r ∷ later) ds
modules_are (r ∷ later) (a_node n ∷ ds) = modules_are (r ∷ later) ds
modules_are (r ∷ later) (a_module m ∷ ds) = ap (λ (ms : List Module). module_with r m ∷ ms) (modules_are later ds)

none_fit : (ms : List Module) → FitModules [] ms
none_fit [] = tt
none_fit (m ∷ ms) = tt

modules_fit : (regions : List ModuleRegions) (ds : List Declaration) → AreFitting regions ds → FitModules regions (filter_map a_module_of ds)
modules_fit regions [] fits = tt
modules_fit [] (d ∷ ds) fits = none_fit (filter_map a_module_of (d ∷ ds))
modules_fit (r ∷ later) (a_topic t ∷ ds) fits = modules_fit (r ∷ later) ds fits.1
modules_fit (r ∷ later) (a_plant q ∷ ds) fits = modules_fit (r ∷ later) ds fits.1
modules_fit (r ∷ later) (a_node n ∷ ds) fits = modules_fit (r ∷ later) ds fits.1
modules_fit (r ∷ later) (a_module m ∷ ds) fits = (fits.0, modules_fit later ds fits.1)

module _ (regions : List ModuleRegions) (p : Program) where
  abbrev other : Program
  other = with_regions regions p

  same : AreSameButForRegions p other
  same = nothing_else regions p

  own_info : (m : Module) → module_info other m ≡ module_info p m
  own_info m = λ j. record {
    name = m.name.name;
    ac = node_place_same p other same m.ac j;
    sc = node_place_same p other same m.sc j;
    period = nat_abs m.period.mantissa;
    offset = nat_abs m.offset.mantissa;
    plant = plant_place_same p other same m.plant j;
    safe = record { width = state_count_same p other same m.plant j; boxes = map (λ a. map side_of a.sides) m.safe; settled = true };
    safer = record { width = state_count_same p other same m.plant j; boxes = map (λ a. map side_of a.sides) m.safer; settled = true };
  }

  new_info : (r : ModuleRegions) (m : Module) → FitsModule m r → module_info other (module_with r m) ≡ info_with r (module_info p m)
  new_info r m fits = λ j. record {
    name = m.name.name;
    ac = node_place_same p other same m.ac j;
    sc = node_place_same p other same m.sc j;
    period = nat_abs m.period.mantissa;
    offset = nat_abs m.offset.mantissa;
    plant = plant_place_same p other same m.plant j;
    safe = record { width = state_count_same p other same m.plant j; boxes = areas_with m.safe r.safe fits.safe j; settled = true };
    safer = record { width = state_count_same p other same m.plant j; boxes = areas_with m.safe r.safer fits.safer j; settled = true };
  }

  own_infos : (ms : List Module) → map (module_info other) ms ≡ map (module_info p) ms
  own_infos ms = λ j. map (λ m. own_info m j) ms

  infos_are : (rs : List ModuleRegions) (ms : List Module) → FitModules rs ms
      → map (module_info other) (modules_with rs ms) ≡ infos_with rs (map (module_info p) ms)
  infos_are rs [] fits = refl
  infos_are [] (m ∷ ms) fits = own_infos (m ∷ ms)
  infos_are (r ∷ later) (m ∷ ms) fits = ap₂ (λ (x : ModuleInfo) (xs : List ModuleInfo). x ∷ xs) (new_info r m fits.0) (infos_are later ms fits.1)

  tables_are : AreFitting regions p.decls → tables_of other ≡ tables_with regions (tables_of p)
  unfolding tables_of
  tables_are fits = λ j. record {
    topics = topic_tables_same p other same j;
    scalars = scalar_tables_same p other same j;
    plants = plant_tables_same p other same j;
    nodes = node_tables_same p other same j;
    modules =
        (ap (map (module_info other)) (modules_are regions p.decls) ∙ infos_are regions (modules p) (modules_fit regions p.decls fits)) j;
  }

pub tables_have : TablesHaveTheRegions
tables_have regions p t u fits of_p of_q = of_q ∙ tables_are regions p fits ∙ ap (tables_with regions) (sym of_p)
