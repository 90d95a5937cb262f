-- The faults of declarations do not depend on places.
use Rattle.std.proofs.Common.{◌≡◌, nat_lt, Bool, true, false, not, ◌&&◌, List, [], ◌∷◌, ◌++◌, map, length, Option, Some, None, option_map, zip, refl, sym, ap}
use Rattle.std.proofs.Common.{ap₂, ◌∙◌, subst}
use Rattle.std.specs.Prelude.{◌==◌}
use Rattle.sot_text.specs.declared.token.Span.{Span}
use Rattle.sot_syntax_tree.specs.declared.tree.Ident.{Ident}
use Rattle.sot_syntax_tree.specs.declared.tree.Lit.{Lit}
use Rattle.sot_syntax_tree.specs.declared.tree.Bounds.{Bounds}
use Rattle.sot_syntax_tree.specs.declared.tree.Scalar.{Scalar}
use Rattle.sot_syntax_tree.specs.declared.tree.Scalar.TheVariants.{Int, Fix, Bool as Truths}
use Rattle.sot_syntax_tree.specs.declared.tree.Const.{Const}
use Rattle.sot_syntax_tree.specs.declared.tree.Const.TheVariants.{Number, Truth}
use Rattle.sot_syntax_tree.specs.declared.tree.Field.{Field}
use Rattle.sot_syntax_tree.specs.declared.tree.StateDecl.{StateDecl}
use Rattle.sot_syntax_tree.specs.Trees.{Block, Start, one_value, values, Topic, Plant, Node, Module, Local, Next, Area, Declaration, a_topic, a_plant, a_node}
use Rattle.sot_syntax_tree.specs.Trees.{a_module, Program}
use Rattle.sot_rules.specs.declared.fault.TypeKind.TheVariants.{Unknown, Twice, ScaleDiffers, KindDiffers, RangeEmpty, InitOutside, ReadsAndWrites, RangeWide}
use Rattle.sot_rules.specs.declared.fault.TypeKind.TheVariants.{NoModule, PeriodOutside, NextMissing}
use Rattle.sot_rules.specs.declared.expressions.sort.Sort.{Sort}
use Rattle.sot_rules.specs.declared.expressions.sort.Sort.TheVariants.{Scaled, Anything}
use Rattle.sot_rules.specs.Sorts.{scale_sort, scalar_sort, state_sort, const_sort, is_truthful}
use Rattle.sot_rules.specs.Names.{meaning, is_topic, is_plant, Scope, node_scope, plant_scope, state_scope, gives, reading}
use Rattle.sot_rules.specs.TreeSorts.{sort}
use Rattle.sot_rules.specs.Lists.{are_same, is_among}
use Rattle.sot_rules.specs.Tests.{starts_outside, const_place, form_scalars, form_names, start_place, starts, is_plant_of, has_module, topic_size, read_size}
use Rattle.sot_rules.specs.Tests.{state_names, noise_names, local_names, side_sorts, has_other_width, free_sides, sides_of, block_unrolled}
use Rattle.sot_rules.specs.Faults.{together, bounds_faults, scalar_faults, start_faults, times_faults, topic_lists, scale_faults, input_faults, seen_lists}
use Rattle.sot_rules.specs.Faults.{noise_lists, next_faults, order_faults, plant_lists, read_faults, write_lists, local_lists, body_faults, node_lists}
use Rattle.sot_rules.specs.Faults.{area_faults, region_faults, module_lists, declaration_faults, tree_faults}
use Rattle.sot_law_print_parse.specs.Unplaced.{nowhere, unplaced_name, unplaced_literal, unplaced_bounds, unplaced_scalar, unplaced_field, unplaced_const}
use Rattle.sot_law_print_parse.specs.Unplaced.{unplaced_tree, unplaced_block, unplaced_start, unplaced_topic, unplaced_state, unplaced_next, unplaced_local}
use Rattle.sot_law_print_parse.specs.Unplaced.{unplaced_plant, unplaced_node, unplaced_area, unplaced_module, unplaced_declaration, without_places}
use Rattle.sot_law_equal_tables.proofs.Lists.{length_same, map_same, map_swap, any_same, zip_second}
use Rattle.sot_law_equal_tables.proofs.Names.{scalar_sort_same, const_sort_same, state_sort_same, meant_same, is_topic_same, is_plant_same, is_node_same}
use Rattle.sot_law_equal_tables.proofs.Names.{is_environment_same, is_external_same, node_scope_same, state_scope_same, plant_scope_same, reading_same}
use Rattle.sot_law_equal_tables.proofs.Names.{sort_same}
use Rattle.sot_law_equal_tables.proofs.Declared.{form_scalars_same, form_names_same, scalar_count_same, counts_differ_same, unplaced_pair, starts_same}
use Rattle.sot_law_equal_tables.proofs.FaultLists.{AreBare, none, also, one, when_at, if_same, each, each_of, repeats_same, past_same, past_names, passes_same}
use Rattle.sot_law_equal_tables.proofs.FaultLists.{target_bare}
use Rattle.sot_law_equal_tables.proofs.ExpressionFaults.{tree_bare, block_bare, block_unrolled_same}

-- ranges, initial values and periods
bounds_bare : (limited : Bool) (s : Sort) (b : Bounds) → AreBare (bounds_faults limited s (unplaced_bounds b)) (bounds_faults limited s b)
bounds_bare limited s b =
    also (if_same b.lo.at ScaleDiffers refl) (also (if_same b.hi.at ScaleDiffers refl)
    (also (if_same b.lo.at RangeEmpty refl) (also (if_same b.lo.at RangeWide refl) none)))

scalar_bare : (limited : Bool) (s : Scalar) → AreBare (scalar_faults limited (unplaced_scalar s)) (scalar_faults limited s)
scalar_bare limited (Int b) = bounds_bare limited (Scaled 0) b
scalar_bare limited (Fix d b) = also (if_same d.at ScaleDiffers refl) (bounds_bare limited (scale_sort d) b)
scalar_bare limited (Truths at) = none

outside_same : (s : Scalar) (c : Const) → starts_outside (unplaced_scalar s) (unplaced_const c) ≡ starts_outside s c
outside_same (Int b) (Number l) = refl
outside_same (Int b) (Truth value at) = refl
outside_same (Fix d b) (Number l) = refl
outside_same (Fix d b) (Truth value at) = refl
outside_same (Truths at) (Number l) = refl
outside_same (Truths at) (Truth value w) = refl

const_nowhere : (c : Const) → const_place (unplaced_const c) ≡ nowhere
const_nowhere (Number l) = refl
const_nowhere (Truth value at) = refl

start_nowhere : (s : Start) → start_place (unplaced_start s) ≡ nowhere
start_nowhere (one_value c) = const_nowhere c
start_nowhere (values cs at) = refl

start_bare : (s : Scalar) (c : Const) → AreBare (start_faults (unplaced_scalar s) (unplaced_const c)) (start_faults s c)
start_bare s c =
    also (target_bare _ (gives (scalar_sort s)) _ (const_sort c) _ (const_place c) (ap gives (scalar_sort_same s)) (const_sort_same c) (const_nowhere c))
    (when_at (const_place c) InitOutside (const_nowhere c) (outside_same s c))

times_bare : (period offset : Lit) → AreBare (times_faults (unplaced_literal period) (unplaced_literal offset)) (times_faults period offset)
times_bare period offset =
    also (if_same period.at ScaleDiffers refl) (also (if_same offset.at ScaleDiffers refl)
    (also (if_same period.at PeriodOutside refl) (also (if_same offset.at PeriodOutside refl) none)))

topic_bare : (t : Topic) → AreBare (together (topic_lists (unplaced_topic t))) (together (topic_lists t))
topic_bare t =
    also (repeats_same _ (form_names t.shape) (form_names_same t.shape))
    (also (past_names 8 _ (form_names t.shape) (form_names_same t.shape))
    (also (each_of unplaced_scalar (scalar_faults true) (scalar_faults true) (scalar_bare true) _ (form_scalars t.shape) (form_scalars_same t.shape))
    (also (when_at _ KindDiffers (start_nowhere t.init) (counts_differ_same t))
    (also (each_of unplaced_pair (λ x. start_faults x.0 x.1) (λ x. start_faults x.0 x.1) (λ x. start_bare x.0 x.1) _ (starts t) (starts_same t))
    none))))

-- lists of names
among_same : (i : Ident) (ys xs : List Ident) → ys ≡ map unplaced_name xs → is_among (unplaced_name i) ys ≡ is_among i xs
among_same i ys xs e = ap (is_among (unplaced_name i)) e ∙ any_same unplaced_name (are_same i) (are_same i) (λ x. refl) xs

both_names : (xs ys : List Ident) → map unplaced_name xs ++ map unplaced_name ys ≡ map unplaced_name (xs ++ ys)
both_names [] ys = refl
both_names (x ∷ xs) ys = ap (λ zs. unplaced_name x ∷ zs) (both_names xs ys)

state_names_same : (q : Plant) → state_names (unplaced_plant q) ≡ map unplaced_name (state_names q)
state_names_same q = map_swap unplaced_state (λ (s : StateDecl). s.name) unplaced_name (λ (s : StateDecl). s.name) (λ s. refl) q.states

noise_names_same : (q : Plant) → noise_names (unplaced_plant q) ≡ map unplaced_name (noise_names q)
noise_names_same q = map_swap unplaced_field (λ (f : Field). f.name) unplaced_name (λ (f : Field). f.name) (λ f. refl) q.noise

local_names_same : (n : Node) → local_names (unplaced_node n) ≡ map unplaced_name (local_names n)
local_names_same n = map_swap unplaced_local (λ (l : Local). l.name) unplaced_name (λ (l : Local). l.name) (λ l. refl) n.locals

plant_names_same : (q : Plant) → state_names (unplaced_plant q) ++ map unplaced_name q.inputs ++ map unplaced_name q.sees
    ≡ map unplaced_name (state_names q ++ q.inputs ++ q.sees)
plant_names_same q =
    ap (λ xs. xs ++ map unplaced_name q.inputs ++ map unplaced_name q.sees) (state_names_same q)
    ∙ ap (λ xs. xs ++ map unplaced_name q.sees) (both_names (state_names q) q.inputs)
    ∙ both_names (state_names q ++ q.inputs) q.sees

-- sizes, by what names mean
topic_size_is : (d : Declaration) → topic_size (Some (unplaced_declaration d)) ≡ topic_size (Some d)
topic_size_is (a_topic t) = scalar_count_same t.shape
topic_size_is (a_plant q) = refl
topic_size_is (a_node n) = refl
topic_size_is (a_module m) = refl

read_size_is : (d : Declaration) → read_size (Some (unplaced_declaration d)) ≡ read_size (Some d)
read_size_is (a_topic t) = scalar_count_same t.shape
read_size_is (a_plant q) = length_same unplaced_state q.states
read_size_is (a_node n) = refl
read_size_is (a_module m) = refl

side_sorts_is : (d : Declaration) → side_sorts (Some (unplaced_declaration d)) ≡ side_sorts (Some d)
side_sorts_is (a_topic t) = refl
side_sorts_is (a_plant q) = ap Some (map_same unplaced_state state_sort state_sort state_sort_same q.states)
side_sorts_is (a_node n) = refl
side_sorts_is (a_module m) = refl

plant_of_is : (i : Ident) (d : Declaration) → is_plant_of (unplaced_name i) (unplaced_declaration d) ≡ is_plant_of i d
plant_of_is i (a_topic t) = refl
plant_of_is i (a_plant q) = refl
plant_of_is i (a_node n) = refl
plant_of_is i (a_module m) = refl

-- the parts of plants that need no other declaration
scale_bare : (o : Option Lit) → AreBare (scale_faults (option_map unplaced_literal o)) (scale_faults o)
scale_bare None = none
scale_bare (Some d) = if_same d.at ScaleDiffers refl

noise_bare : (q : Plant) (f : Field) → AreBare (together (noise_lists (unplaced_plant q) (unplaced_field f))) (together (noise_lists q f))
noise_bare q f =
    also (if_same f.name.at Twice (among_same f.name _ (state_names q ++ q.inputs ++ q.sees) (plant_names_same q)))
    (also (if_same f.name.at KindDiffers (ap is_truthful (scalar_sort_same f.scalar))) (also (scalar_bare true f.scalar) none))

order_bare : (ss : List StateDecl) (ns : List Next) → AreBare (order_faults (map unplaced_state ss) (map unplaced_next ns)) (order_faults ss ns)
order_bare [] [] = none
order_bare (s ∷ ss) [] = none
order_bare [] (n ∷ ns) = one n.name.at NextMissing (order_bare [] ns)
order_bare (s ∷ ss) (n ∷ ns) = also (if_same n.name.at NextMissing refl) (order_bare ss ns)

-- a local
local_bare : (n : Node) (l : Local) → AreBare (together (local_lists (unplaced_node n) (unplaced_local l))) (together (local_lists n l))
local_bare n l =
    also (if_same l.name.at Twice (among_same l.name _ (n.reads ++ n.writes) (both_names n.reads n.writes)))
    (also (scalar_bare false l.scalar) (also (start_bare l.scalar l.init) none))

body_is : (s : Scope) (b : Option Block) → AreBare (body_faults s (option_map unplaced_block b)) (body_faults s b)
body_is s None = none
body_is s (Some b) = also (block_bare s b) (past_same 10000 _ (block_unrolled b) (block_unrolled_same b))

-- the boxes of a region
width_same : (width : Option (List Sort)) (a : Area) → has_other_width width (unplaced_area a) ≡ has_other_width width a
width_same None a = refl
width_same (Some sorts) a = ap (λ n. not (length sorts == n)) (length_same unplaced_bounds a.sides)

abbrev unplaced_side : Sort × Bounds → Sort × Bounds
unplaced_side x = (x.0, unplaced_bounds x.1)

free_same : (a : Area) → free_sides (unplaced_area a) ≡ map unplaced_side (free_sides a)
free_same a = map_swap unplaced_bounds (λ (s : Bounds). (Anything, s)) unplaced_side (λ (s : Bounds). (Anything, s)) (λ s. refl) a.sides

chosen_same : (b : Bool) (free paired : List (Sort × Bounds))
    → elim b as (λ x. List (Sort × Bounds)) [ true ↦ map unplaced_side free | false ↦ map unplaced_side paired ]
    ≡ map unplaced_side (elim b as (λ x. List (Sort × Bounds)) [ true ↦ free | false ↦ paired ])
chosen_same true free paired = refl
chosen_same false free paired = refl

sides_same : (width : Option (List Sort)) (a : Area) → sides_of width (unplaced_area a) ≡ map unplaced_side (sides_of width a)
sides_same None a = free_same a
sides_same (Some sorts) a =
    (λ j. elim (width_same (Some sorts) a j) as (λ x. List (Sort × Bounds)) [ true ↦ free_same a j | false ↦ zip_second unplaced_bounds sorts a.sides j ])
    ∙ chosen_same (has_other_width (Some sorts) a) (free_sides a) (zip sorts a.sides)

area_bare : (width : Option (List Sort)) (a : Area) → AreBare (area_faults width (unplaced_area a)) (area_faults width a)
area_bare width a =
    also (if_same a.at KindDiffers (width_same width a))
    (each_of unplaced_side (λ x. bounds_faults false x.0 x.1) (λ x. bounds_faults false x.0 x.1) (λ x. bounds_bare false x.0 x.1) _ (sides_of width a)
    (sides_same width a))

region_is : (width : Option (List Sort)) (boxes : List Area) → AreBare (region_faults width (map unplaced_area boxes)) (region_faults width boxes)
region_is width boxes =
    also (each unplaced_area (area_faults width) (area_faults width) (area_bare width) boxes)
    (past_same 256 _ (map (λ b. b.at) boxes) (map_swap unplaced_area (λ (a : Area). a.at) (λ (x : Span). nowhere) (λ (a : Area). a.at) (λ a. refl) boxes))

region_bare : (v w : Option (List Sort)) (boxes : List Area) → v ≡ w → AreBare (region_faults v (map unplaced_area boxes)) (region_faults w boxes)
region_bare v w boxes e = subst (λ x. AreBare (region_faults x (map unplaced_area boxes)) (region_faults w boxes)) (sym e) (region_is w boxes)

module _ (p : Program) where
  topic_size_same : (i : Ident) → topic_size (meaning (without_places p) (unplaced_name i)) ≡ topic_size (meaning p i)
  topic_size_same i = meant_same topic_size topic_size_is p i

  read_size_same : (i : Ident) → read_size (meaning (without_places p) (unplaced_name i)) ≡ read_size (meaning p i)
  read_size_same i = meant_same read_size read_size_is p i

  module_same : (i : Ident) → has_module (without_places p) (unplaced_name i) ≡ has_module p i
  module_same i = any_same unplaced_declaration (is_plant_of (unplaced_name i)) (is_plant_of i) (plant_of_is i) p.decls

  -- neither a topic nor a plant
  neither_same : (i : Ident) → (not (is_topic (meaning (without_places p) i)) && not (is_plant (meaning (without_places p) i)))
      ≡ (not (is_topic (meaning p i)) && not (is_plant (meaning p i)))
  neither_same i = λ j. not (is_topic_same p i j) && not (is_plant_same p i j)

  -- plants
  input_bare : (q : Plant) (i : Ident) → AreBare (input_faults (without_places p) (unplaced_plant q) (unplaced_name i)) (input_faults p q i)
  input_bare q i =
      also (if_same i.at Unknown (ap not (is_topic_same p i)))
      (if_same i.at Twice (λ j. is_topic_same p i j && among_same i _ (state_names q) (state_names_same q) j))

  seen_bare : (q : Plant) (i : Ident) → AreBare (together (seen_lists (without_places p) (unplaced_plant q) (unplaced_name i))) (together (seen_lists p q i))
  seen_bare q i =
      also (if_same i.at Unknown (neither_same i))
      (also (if_same i.at KindDiffers (is_topic_same p i))
      (also (if_same i.at KindDiffers (ap (λ b. b && are_same i q.name) (is_plant_same p i)))
      (also (if_same i.at Twice (λ j. is_plant_same p i j && (not (are_same i q.name) && among_same i _ (state_names q) (state_names_same q) j)))
      none)))

  next_bare : (q : Plant) (n : Next) → AreBare (next_faults (without_places p) (unplaced_plant q) (unplaced_next n)) (next_faults p q n)
  next_bare q n =
      also (subst (λ names. AreBare (tree_faults names (unplaced_tree n.value)) (tree_faults (plant_scope p q) n.value)) (sym (plant_scope_same p q))
      (tree_bare (plant_scope p q) n.value))
      (target_bare _ (reading (state_scope q) n.name None) _ (sort (plant_scope p q) n.value) nowhere n.name.at
      (ap (λ names. reading names (unplaced_name n.name) None) (state_scope_same p q) ∙ reading_same (state_scope q) n.name None)
      (ap (λ names. sort names (unplaced_tree n.value)) (plant_scope_same p q) ∙ sort_same (plant_scope p q) n.value)
      refl)

  plant_bare : (q : Plant) → AreBare (together (plant_lists (without_places p) (unplaced_plant q))) (together (plant_lists p q))
  plant_bare q =
      also (if_same q.name.at NoModule (ap not (module_same q.name)))
      (also (repeats_same _ (state_names q) (state_names_same q))
      (also (past_names 4 _ (state_names q) (state_names_same q))
      (also (each unplaced_state (λ s. scale_faults s.scale) (λ s. scale_faults s.scale) (λ s. scale_bare s.scale) q.states)
      (also (each unplaced_name (input_faults (without_places p) (unplaced_plant q)) (input_faults p q) (input_bare q) q.inputs)
      (also (repeats_same _ q.inputs refl)
      (also (passes_same (λ i. topic_size (meaning (without_places p) i)) (λ i. topic_size (meaning p i)) topic_size_same 8 q.inputs)
      (also (each unplaced_name (λ i. together (seen_lists (without_places p) (unplaced_plant q) i)) (λ i. together (seen_lists p q i)) (seen_bare q) q.sees)
      (also (repeats_same _ q.sees refl)
      (also (past_names 16 _ q.sees refl)
      (also (each unplaced_field (λ f. together (noise_lists (unplaced_plant q) f)) (λ f. together (noise_lists q f)) (noise_bare q) q.noise)
      (also (repeats_same _ (noise_names q) (noise_names_same q))
      (also (past_names 4 _ (noise_names q) (noise_names_same q))
      (also (each unplaced_next (next_faults (without_places p) (unplaced_plant q)) (next_faults p q) (next_bare q) q.next)
      (also (order_bare q.states q.next)
      (also (if_same q.end NextMissing (ap₂ nat_lt (length_same unplaced_next q.next) (length_same unplaced_state q.states)))
      none)))))))))))))))

  -- nodes
  read_bare : (i : Ident) → AreBare (read_faults (without_places p) (unplaced_name i)) (read_faults p i)
  read_bare i = if_same i.at Unknown (neither_same i)

  write_bare : (n : Node) (i : Ident) → AreBare (together (write_lists (without_places p) (unplaced_node n) (unplaced_name i))) (together (write_lists p n i))
  write_bare n i =
      also (if_same i.at Unknown (ap not (is_topic_same p i)))
      (also (if_same i.at KindDiffers (is_environment_same p i))
      (also (if_same i.at ReadsAndWrites (λ j. is_topic_same p i j && among_same i _ n.reads refl j))
      none))

  body_bare : (n : Node) → AreBare (body_faults (node_scope (without_places p) (unplaced_node n)) (option_map unplaced_block n.body))
      (body_faults (node_scope p n) n.body)
  body_bare n =
      subst (λ s. AreBare (body_faults s (option_map unplaced_block n.body)) (body_faults (node_scope p n) n.body)) (sym (node_scope_same p n))
      (body_is (node_scope p n) n.body)

  node_bare : (n : Node) → AreBare (together (node_lists (without_places p) (unplaced_node n))) (together (node_lists p n))
  node_bare n =
      also (times_bare n.period n.offset)
      (also (each unplaced_name (read_faults (without_places p)) (read_faults p) read_bare n.reads)
      (also (repeats_same _ n.reads refl)
      (also (passes_same (λ i. read_size (meaning (without_places p) i)) (λ i. read_size (meaning p i)) read_size_same 64 n.reads)
      (also (each unplaced_name (λ i. together (write_lists (without_places p) (unplaced_node n) i)) (λ i. together (write_lists p n i)) (write_bare n)
      n.writes)
      (also (repeats_same _ n.writes refl)
      (also (passes_same (λ i. topic_size (meaning (without_places p) i)) (λ i. topic_size (meaning p i)) topic_size_same 8 n.writes)
      (also (each unplaced_local (λ l. together (local_lists (unplaced_node n) l)) (λ l. together (local_lists n l)) (local_bare n) n.locals)
      (also (repeats_same _ (local_names n) (local_names_same n))
      (also (past_names 16 _ (local_names n) (local_names_same n))
      (also (body_bare n)
      none))))))))))

  -- modules
  module_bare : (m : Module) → AreBare (together (module_lists (without_places p) (unplaced_module m))) (together (module_lists p m))
  module_bare m =
      also (if_same m.ac.at Unknown (ap not (is_node_same p m.ac)))
      (also (if_same m.sc.at Unknown (ap not (is_node_same p m.sc)))
      (also (if_same m.sc.at KindDiffers (is_external_same p m.sc))
      (also (if_same m.sc.at Twice refl)
      (also (times_bare m.period m.offset)
      (also (if_same m.plant.at Unknown (neither_same m.plant))
      (also (if_same m.plant.at KindDiffers (is_topic_same p m.plant))
      (also (region_bare _ (side_sorts (meaning p m.plant)) m.safe (meant_same side_sorts side_sorts_is p m.plant))
      (also (region_bare _ (side_sorts (meaning p m.plant)) m.safer (meant_same side_sorts side_sorts_is p m.plant))
      none))))))))

  pub declaration_bare : (d : Declaration) → AreBare (declaration_faults (without_places p) (unplaced_declaration d)) (declaration_faults p d)
  declaration_bare (a_topic t) = topic_bare t
  declaration_bare (a_plant q) = plant_bare q
  declaration_bare (a_node n) = node_bare n
  declaration_bare (a_module m) = module_bare m
