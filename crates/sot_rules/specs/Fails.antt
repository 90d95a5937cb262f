-- The twelve rules of typing: where each of them fails. One family a construct, and one line a way
-- to fail.
use Rattle.std.specs.Prelude.{◌≡◌, ℕ, ◌<◌, Bool, true, false, List, ◌++◌, map, length, Option, Some}
use Rattle.std.specs.Prelude.{None, slice_get}
use Rattle.std.specs.List.{list_any}
use Rattle.sot_lists.specs.Places.{At, Has}
use Rattle.sot_text.specs.declared.token.Span.{Span}
use Rattle.sot_syntax_tree.specs.declared.operator.Op.{Op}
use Rattle.sot_syntax_tree.specs.declared.operator.Func.{Func}
use Rattle.sot_syntax_tree.specs.declared.tree.Ident.{Ident}
use Rattle.sot_syntax_tree.specs.declared.tree.Lit.{Lit}
use Rattle.sot_syntax_tree.specs.declared.tree.Bounds.{Bounds}
use Rattle.sot_syntax_tree.specs.declared.tree.Scalar.{Scalar}
use Rattle.sot_syntax_tree.specs.declared.tree.Scalar.TheVariants.{Int, Fix}
use Rattle.sot_syntax_tree.specs.declared.tree.Const.{Const}
use Rattle.sot_syntax_tree.specs.declared.tree.Field.{Field}
use Rattle.sot_syntax_tree.specs.declared.tree.StateDecl.{StateDecl}
use Rattle.sot_syntax_tree.specs.Trees.{Tree, Trees, named, binary, rest, negated, denied, called}
use Rattle.sot_syntax_tree.specs.Trees.{rescaled, chosen, one_more, Statement, Block, assigned}
use Rattle.sot_syntax_tree.specs.Trees.{published}
use Rattle.sot_syntax_tree.specs.Trees.{branched, repeated, statement, Topic, Plant, Node, Module}
use Rattle.sot_syntax_tree.specs.Trees.{Local}
use Rattle.sot_syntax_tree.specs.Trees.{Next, Area, Declaration, a_topic, a_plant, a_node, a_module}
use Rattle.sot_syntax_tree.specs.Trees.{Program}
use Rattle.sot_rules.specs.declared.fault.TypeKind.{TypeKind}
use Rattle.sot_rules.specs.declared.fault.TypeKind.TheVariants.{Unknown, Twice, ScaleDiffers}
use Rattle.sot_rules.specs.declared.fault.TypeKind.TheVariants.{KindDiffers, RangeEmpty}
use Rattle.sot_rules.specs.declared.fault.TypeKind.TheVariants.{InitOutside, ReadsAndWrites}
use Rattle.sot_rules.specs.declared.fault.TypeKind.TheVariants.{TooMany, RangeWide, NoModule}
use Rattle.sot_rules.specs.declared.fault.TypeKind.TheVariants.{PeriodOutside, NextMissing}
use Rattle.sot_rules.specs.declared.expressions.sort.Sort.{Sort}
use Rattle.sot_rules.specs.declared.expressions.sort.Sort.TheVariants.{Scaled}
use Rattle.sot_rules.specs.Sorts.{scale_sort, scalar_sort, const_sort, is_truthful, is_scaled}
use Rattle.sot_rules.specs.Sorts.{differ, are_mixed, kinds_misfit, scales_misfit, some_differ}
use Rattle.sot_rules.specs.Sorts.{branches_misfit}
use Rattle.sot_rules.specs.Names.{declared_name, meaning, is_topic, is_plant, is_node}
use Rattle.sot_rules.specs.Names.{is_environment, is_external, Thing, Scope, node_scope}
use Rattle.sot_rules.specs.Names.{plant_scope, state_scope, Reading, gives, nothing_at, reading}
use Rattle.sot_rules.specs.Names.{reading_sort}
use Rattle.sot_rules.specs.TreeSorts.{has_decimals, is_no_scale, is_zero, sort, sorts}
use Rattle.sot_rules.specs.Lists.{are_same, is_among, IsRepeated, IsPast, IsPassedBy, places}
use Rattle.sot_rules.specs.Tests.{is_empty, is_wide, starts_outside, const_place, form_scalars}
use Rattle.sot_rules.specs.Tests.{form_names, start_place, counts_differ, starts, is_off, is_late}
use Rattle.sot_rules.specs.Tests.{topic_name, plant_name, node_name, module_name, names_of}
use Rattle.sot_rules.specs.Tests.{has_module, topic_size, read_size, state_names, noise_names}
use Rattle.sot_rules.specs.Tests.{local_names, is_state, side_sorts, has_other_width, sides_of}
use Rattle.sot_rules.specs.Tests.{block_unrolled}

-- an expression, with the names that it may use
mutual
  pub data TreeFails (names : List Thing) : Tree → Span → TypeKind → Type 0 where
    -- a name is nothing that may be named there
    unknown : {first : Ident} {field : Option Ident} {at : Span}
        → reading names first field ≡ nothing_at at → TreeFails names (named first field) at Unknown
    -- the operands of an operator
    operands_kind : {op : Op} {a b : Tree} {at : Span}
        → kinds_misfit op (sort names a) (sort names b) ≡ true
        → TreeFails names (binary op a b at) at KindDiffers
    operands_scale : {op : Op} {a b : Tree} {at : Span}
        → scales_misfit op (sort names a) (sort names b) ≡ true
        → TreeFails names (binary op a b at) at ScaleDiffers
    -- the operand of `%`, and its number
    rest_kind : {a : Tree} {by : Lit} {at : Span} → is_truthful (sort names a) ≡ true
        → TreeFails names (rest a by at) at KindDiffers
    rest_scale : {a : Tree} {by : Lit} {at : Span} → differ (sort names a) (Scaled by.scale) ≡ true
        → TreeFails names (rest a by at) at ScaleDiffers
    rest_zero : {a : Tree} {by : Lit} {at : Span} → is_zero by ≡ true
        → TreeFails names (rest a by at) by.at KindDiffers
    -- a negated truth value, and the `not` of a number
    negated_truth : {a : Tree} {at : Span} → is_truthful (sort names a) ≡ true
        → TreeFails names (negated a at) at KindDiffers
    denied_number : {a : Tree} {at : Span} → is_scaled (sort names a) ≡ true
        → TreeFails names (denied a at) at KindDiffers
    -- the operands of a call
    call_kind : {f : Func} {parts : Trees} {at : Span}
        → list_any is_truthful (sorts names parts) ≡ true
        → TreeFails names (called f parts at) at KindDiffers
    call_scale : {f : Func} {parts : Trees} {at : Span} → some_differ (sorts names parts) ≡ true
        → TreeFails names (called f parts at) at ScaleDiffers
    -- the operand of `rescale`, and its number
    rescaled_truth : {a : Tree} {to : Lit} {at : Span} → is_truthful (sort names a) ≡ true
        → TreeFails names (rescaled a to at) at KindDiffers
    rescaled_far : {a : Tree} {to : Lit} {at : Span} → is_no_scale to ≡ true
        → TreeFails names (rescaled a to at) to.at ScaleDiffers
    -- the condition and the branches of an `if`
    branches_kind : {c a b : Tree} {at : Span}
        → branches_misfit (sort names c) (sort names a) (sort names b) ≡ true
        → TreeFails names (chosen c a b at) at KindDiffers
    branches_scale : {c a b : Tree} {at : Span} → differ (sort names a) (sort names b) ≡ true
        → TreeFails names (chosen c a b at) at ScaleDiffers
    -- inside
    in_left : {op : Op} {a b : Tree} {w at : Span} {k : TypeKind} → TreeFails names a at k
        → TreeFails names (binary op a b w) at k
    in_right : {op : Op} {a b : Tree} {w at : Span} {k : TypeKind} → TreeFails names b at k
        → TreeFails names (binary op a b w) at k
    in_rest : {a : Tree} {by : Lit} {w at : Span} {k : TypeKind} → TreeFails names a at k
        → TreeFails names (rest a by w) at k
    in_negated : {a : Tree} {w at : Span} {k : TypeKind} → TreeFails names a at k
        → TreeFails names (negated a w) at k
    in_denied : {a : Tree} {w at : Span} {k : TypeKind} → TreeFails names a at k
        → TreeFails names (denied a w) at k
    in_call : {f : Func} {parts : Trees} {w at : Span} {k : TypeKind} → PartsFail names parts at k
        → TreeFails names (called f parts w) at k
    in_rescaled : {a : Tree} {to : Lit} {w at : Span} {k : TypeKind} → TreeFails names a at k
        → TreeFails names (rescaled a to w) at k
    in_condition : {c a b : Tree} {w at : Span} {k : TypeKind} → TreeFails names c at k
        → TreeFails names (chosen c a b w) at k
    in_then : {c a b : Tree} {w at : Span} {k : TypeKind} → TreeFails names a at k
        → TreeFails names (chosen c a b w) at k
    in_else : {c a b : Tree} {w at : Span} {k : TypeKind} → TreeFails names b at k
        → TreeFails names (chosen c a b w) at k

  pub data PartsFail (names : List Thing) : Trees → Span → TypeKind → Type 0 where
    in_first : {e : Tree} {more : Trees} {at : Span} {k : TypeKind} → TreeFails names e at k
        → PartsFail names (one_more e more) at k
    in_later : {e : Tree} {more : Trees} {at : Span} {k : TypeKind} → PartsFail names more at k
        → PartsFail names (one_more e more) at k

-- a value of this sort for a target, which stands at w
pub data TargetFails (target : Reading) (value : Sort) (w : Span) : Span → TypeKind → Type 0 where
  no_target : {at : Span} → target ≡ nothing_at at → TargetFails target value w at Unknown
  target_kind : are_mixed (reading_sort target) value ≡ true
      → TargetFails target value w w KindDiffers
  target_scale : differ (reading_sort target) value ≡ true
      → TargetFails target value w w ScaleDiffers

-- a statement, with the names that it may use
mutual
  pub data StatementFails (s : Scope) : Statement → Span → TypeKind → Type 0 where
    assigned_target : {target : Ident} {e : Tree} {at : Span} {k : TypeKind}
        → TargetFails (reading s.local target None) (sort s.read e) target.at at k
        → StatementFails s (assigned target e) at k
    assigned_value : {target : Ident} {e : Tree} {at : Span} {k : TypeKind}
        → TreeFails s.read e at k → StatementFails s (assigned target e) at k
    published_target : {topic : Ident} {field : Option Ident} {e : Tree} {at : Span} {k : TypeKind}
        → TargetFails (reading s.written topic field) (sort s.read e) topic.at at k
        → StatementFails s (published topic field e) at k
    published_value : {topic : Ident} {field : Option Ident} {e : Tree} {at : Span} {k : TypeKind}
        → TreeFails s.read e at k → StatementFails s (published topic field e) at k
    -- a number as a condition, and a loop count that is not 1 to 1,000
    condition_kind : {c : Tree} {taken other : Block} {at : Span} → is_scaled (sort s.read c) ≡ true
        → StatementFails s (branched c taken other at) at KindDiffers
    times_decimals : {times : Lit} {body : Block} {at : Span} → has_decimals times ≡ true
        → StatementFails s (repeated times body at) times.at ScaleDiffers
    times_off : {times : Lit} {body : Block} {at : Span} → is_off times ≡ true
        → StatementFails s (repeated times body at) times.at PeriodOutside
    -- inside
    in_test : {c : Tree} {taken other : Block} {w at : Span} {k : TypeKind}
        → TreeFails s.read c at k → StatementFails s (branched c taken other w) at k
    in_taken : {c : Tree} {taken other : Block} {w at : Span} {k : TypeKind}
        → BlockFails s taken at k → StatementFails s (branched c taken other w) at k
    in_other : {c : Tree} {taken other : Block} {w at : Span} {k : TypeKind}
        → BlockFails s other at k → StatementFails s (branched c taken other w) at k
    in_body : {times : Lit} {body : Block} {w at : Span} {k : TypeKind} → BlockFails s body at k
        → StatementFails s (repeated times body w) at k

  pub data BlockFails (s : Scope) : Block → Span → TypeKind → Type 0 where
    in_statement : {a : Statement} {more : Block} {at : Span} {k : TypeKind}
        → StatementFails s a at k → BlockFails s (statement a more) at k
    in_following : {a : Statement} {more : Block} {at : Span} {k : TypeKind}
        → BlockFails s more at k → BlockFails s (statement a more) at k

-- a range of numbers of this sort; where it is limited, its width counts too
pub data BoundsFail (limited : Bool) (s : Sort) (b : Bounds) : Span → TypeKind → Type 0 where
  low_scale : differ s (Scaled b.lo.scale) ≡ true → BoundsFail limited s b b.lo.at ScaleDiffers
  high_scale : differ s (Scaled b.hi.scale) ≡ true → BoundsFail limited s b b.hi.at ScaleDiffers
  empty : is_empty b ≡ true → BoundsFail limited s b b.lo.at RangeEmpty
  wide : limited ≡ true → is_wide b ≡ true → BoundsFail limited s b b.lo.at RangeWide

-- the type of a scalar
pub data ScalarFails (limited : Bool) : Scalar → Span → TypeKind → Type 0 where
  no_scale : {d : Lit} {b : Bounds} → is_no_scale d ≡ true
      → ScalarFails limited (Fix d b) d.at ScaleDiffers
  int_bounds : {b : Bounds} {at : Span} {k : TypeKind} → BoundsFail limited (Scaled 0) b at k
      → ScalarFails limited (Int b) at k
  fix_bounds : {d : Lit} {b : Bounds} {at : Span} {k : TypeKind}
      → BoundsFail limited (scale_sort d) b at k → ScalarFails limited (Fix d b) at k

-- the initial value of a scalar
pub data StartFails (s : Scalar) (c : Const) : Span → TypeKind → Type 0 where
  start_misfit : {at : Span} {k : TypeKind}
      → TargetFails (gives (scalar_sort s)) (const_sort c) (const_place c) at k
      → StartFails s c at k
  start_outside : starts_outside s c ≡ true → StartFails s c (const_place c) InitOutside

-- a period and an offset
pub data TimesFail (period offset : Lit) : Span → TypeKind → Type 0 where
  period_decimals : has_decimals period ≡ true → TimesFail period offset period.at ScaleDiffers
  offset_decimals : has_decimals offset ≡ true → TimesFail period offset offset.at ScaleDiffers
  period_off : is_off period ≡ true → TimesFail period offset period.at PeriodOutside
  offset_late : is_late period offset ≡ true → TimesFail period offset offset.at PeriodOutside

pub data TopicFails (t : Topic) : Span → TypeKind → Type 0 where
  field_twice : {at : Span} → IsRepeated (form_names t.shape) at → TopicFails t at Twice
  many_fields : {at : Span} → IsPast 8 (places (form_names t.shape)) at → TopicFails t at TooMany
  scalar : {s : Scalar} {at : Span} {k : TypeKind} → Has (form_scalars t.shape) s
      → ScalarFails true s at k → TopicFails t at k
  other_count : counts_differ t ≡ true → TopicFails t (start_place t.init) KindDiffers
  start : {s : Scalar} {c : Const} {at : Span} {k : TypeKind} → Has (starts t) (s, c)
      → StartFails s c at k → TopicFails t at k

pub data PlantFails (p : Program) (q : Plant) : Span → TypeKind → Type 0 where
  no_module : has_module p q.name ≡ false → PlantFails p q q.name.at NoModule
  -- state variables
  state_twice : {at : Span} → IsRepeated (state_names q) at → PlantFails p q at Twice
  many_states : {at : Span} → IsPast 4 (places (state_names q)) at → PlantFails p q at TooMany
  state_scale : {s : StateDecl} {d : Lit} → Has q.states s → s.scale ≡ Some d → is_no_scale d ≡ true
      → PlantFails p q d.at ScaleDiffers
  -- inputs, which are topics
  input_unknown : {i : Ident} → Has q.inputs i → is_topic (meaning p i) ≡ false
      → PlantFails p q i.at Unknown
  input_twice : {at : Span} → IsRepeated q.inputs at → PlantFails p q at Twice
  input_hides : {i : Ident} → Has q.inputs i → is_topic (meaning p i) ≡ true
      → is_among i (state_names q) ≡ true → PlantFails p q i.at Twice
  many_inputs : {at : Span} → IsPassedBy (λ i. topic_size (meaning p i)) 8 q.inputs at
      → PlantFails p q at TooMany
  -- seen plants, which are other ones
  seen_unknown : {i : Ident} → Has q.sees i → is_topic (meaning p i) ≡ false
      → is_plant (meaning p i) ≡ false → PlantFails p q i.at Unknown
  seen_topic : {i : Ident} → Has q.sees i → is_topic (meaning p i) ≡ true
      → PlantFails p q i.at KindDiffers
  sees_itself : {i : Ident} → Has q.sees i → is_plant (meaning p i) ≡ true
      → are_same i q.name ≡ true → PlantFails p q i.at KindDiffers
  seen_twice : {at : Span} → IsRepeated q.sees at → PlantFails p q at Twice
  seen_hides : {i : Ident} → Has q.sees i → is_plant (meaning p i) ≡ true
      → are_same i q.name ≡ false → is_among i (state_names q) ≡ true → PlantFails p q i.at Twice
  many_seen : {at : Span} → IsPast 16 (places q.sees) at → PlantFails p q at TooMany
  -- disturbances, which are numbers
  noise_twice : {at : Span} → IsRepeated (noise_names q) at → PlantFails p q at Twice
  noise_hides : {f : Field} → Has q.noise f
      → is_among f.name (state_names q ++ q.inputs ++ q.sees) ≡ true
      → PlantFails p q f.name.at Twice
  noise_truth : {f : Field} → Has q.noise f → is_truthful (scalar_sort f.scalar) ≡ true
      → PlantFails p q f.name.at KindDiffers
  noise_scalar : {f : Field} {at : Span} {k : TypeKind} → Has q.noise f
      → ScalarFails true f.scalar at k → PlantFails p q at k
  many_noise : {at : Span} → IsPast 4 (places (noise_names q)) at → PlantFails p q at TooMany
  -- `next` clauses: one a state variable, in order
  next_target : {n : Next} {at : Span} {k : TypeKind} → Has q.next n
      → TargetFails (reading (state_scope q) n.name None) (sort (plant_scope p q) n.value) n.name.at
      at k → PlantFails p q at k
  next_value : {n : Next} {at : Span} {k : TypeKind} → Has q.next n
      → TreeFails (plant_scope p q) n.value at k → PlantFails p q at k
  next_order : (place : ℕ) {n : Next} → At q.next place n
      → is_state n.name (slice_get q.states place) ≡ false → PlantFails p q n.name.at NextMissing
  next_short : length q.next < length q.states → PlantFails p q q.end NextMissing

pub data NodeFails (p : Program) (n : Node) : Span → TypeKind → Type 0 where
  node_times : {at : Span} {k : TypeKind} → TimesFail n.period n.offset at k → NodeFails p n at k
  -- what it reads: topics and plants
  read_unknown : {i : Ident} → Has n.reads i → is_topic (meaning p i) ≡ false
      → is_plant (meaning p i) ≡ false → NodeFails p n i.at Unknown
  read_twice : {at : Span} → IsRepeated n.reads at → NodeFails p n at Twice
  many_read : {at : Span} → IsPassedBy (λ i. read_size (meaning p i)) 64 n.reads at
      → NodeFails p n at TooMany
  -- what it writes: topics that are none of the environment's and that it does not read
  written_unknown : {i : Ident} → Has n.writes i → is_topic (meaning p i) ≡ false
      → NodeFails p n i.at Unknown
  written_twice : {at : Span} → IsRepeated n.writes at → NodeFails p n at Twice
  written_outside : {i : Ident} → Has n.writes i → is_environment (meaning p i) ≡ true
      → NodeFails p n i.at KindDiffers
  written_read : {i : Ident} → Has n.writes i → is_topic (meaning p i) ≡ true
      → is_among i n.reads ≡ true → NodeFails p n i.at ReadsAndWrites
  many_written : {at : Span} → IsPassedBy (λ i. topic_size (meaning p i)) 8 n.writes at
      → NodeFails p n at TooMany
  -- locals
  local_twice : {at : Span} → IsRepeated (local_names n) at → NodeFails p n at Twice
  local_hides : {l : Local} → Has n.locals l → is_among l.name (n.reads ++ n.writes) ≡ true
      → NodeFails p n l.name.at Twice
  local_scalar : {l : Local} {at : Span} {k : TypeKind} → Has n.locals l
      → ScalarFails false l.scalar at k → NodeFails p n at k
  local_start : {l : Local} {at : Span} {k : TypeKind} → Has n.locals l
      → StartFails l.scalar l.init at k → NodeFails p n at k
  many_locals : {at : Span} → IsPast 16 (places (local_names n)) at → NodeFails p n at TooMany
  -- its body, with the statements counted as if each loop were written out
  statements : {body : Block} {at : Span} {k : TypeKind} → n.body ≡ Some body
      → BlockFails (node_scope p n) body at k → NodeFails p n at k
  many_statements : {body : Block} {at : Span} → n.body ≡ Some body
      → IsPast 10000 (block_unrolled body) at → NodeFails p n at TooMany

-- the boxes of a region, with the sorts of its plant's state variables
pub data RegionFails (width : Option (List Sort)) (boxes : List Area) : Span → TypeKind
    → Type 0 where
  other_width : {b : Area} → Has boxes b → has_other_width width b ≡ true
      → RegionFails width boxes b.at KindDiffers
  side : {b : Area} {s : Sort} {r : Bounds} {at : Span} {k : TypeKind} → Has boxes b
      → Has (sides_of width b) (s, r) → BoundsFail false s r at k → RegionFails width boxes at k
  many_boxes : {at : Span} → IsPast 256 (map (λ b. b.at) boxes) at
      → RegionFails width boxes at TooMany

pub data ModuleFails (p : Program) (m : Module) : Span → TypeKind → Type 0 where
  -- its nodes: two, of which the safe one is coded
  ac_unknown : is_node (meaning p m.ac) ≡ false → ModuleFails p m m.ac.at Unknown
  sc_unknown : is_node (meaning p m.sc) ≡ false → ModuleFails p m m.sc.at Unknown
  sc_external : is_external (meaning p m.sc) ≡ true → ModuleFails p m m.sc.at KindDiffers
  same_node : are_same m.ac m.sc ≡ true → ModuleFails p m m.sc.at Twice
  module_times : {at : Span} {k : TypeKind} → TimesFail m.period m.offset at k
      → ModuleFails p m at k
  plant_unknown : is_topic (meaning p m.plant) ≡ false → is_plant (meaning p m.plant) ≡ false
      → ModuleFails p m m.plant.at Unknown
  plant_topic : is_topic (meaning p m.plant) ≡ true → ModuleFails p m m.plant.at KindDiffers
  safe : {at : Span} {k : TypeKind} → RegionFails (side_sorts (meaning p m.plant)) m.safe at k
      → ModuleFails p m at k
  safer : {at : Span} {k : TypeKind} → RegionFails (side_sorts (meaning p m.plant)) m.safer at k
      → ModuleFails p m at k

pub data DeclarationFails (p : Program) : Declaration → Span → TypeKind → Type 0 where
  in_topic : {t : Topic} {at : Span} {k : TypeKind} → TopicFails t at k
      → DeclarationFails p (a_topic t) at k
  in_plant : {q : Plant} {at : Span} {k : TypeKind} → PlantFails p q at k
      → DeclarationFails p (a_plant q) at k
  in_node : {n : Node} {at : Span} {k : TypeKind} → NodeFails p n at k
      → DeclarationFails p (a_node n) at k
  in_module : {m : Module} {at : Span} {k : TypeKind} → ModuleFails p m at k
      → DeclarationFails p (a_module m) at k

-- the rule of this kind fails at this place of the program
pub data Fails (p : Program) : Span → TypeKind → Type 0 where
  declared_twice : {at : Span} → IsRepeated (map declared_name p.decls) at → Fails p at Twice
  many_topics : {at : Span} → IsPast 512 (places (names_of topic_name p)) at → Fails p at TooMany
  many_nodes : {at : Span} → IsPast 300 (places (names_of node_name p)) at → Fails p at TooMany
  many_modules : {at : Span} → IsPast 100 (places (names_of module_name p)) at → Fails p at TooMany
  many_plants : {at : Span} → IsPast 100 (places (names_of plant_name p)) at → Fails p at TooMany
  declaration : {d : Declaration} {at : Span} {k : TypeKind} → Has p.decls d
      → DeclarationFails p d at k → Fails p at k
