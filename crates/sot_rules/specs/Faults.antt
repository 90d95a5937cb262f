-- All faults of a program as a list, in the order in which they are looked for, and the least of a
-- list.
use Rattle.std.specs.Prelude.{ℕ, ◌+◌, nat_lt, nat_le, ◌==◌, Bool, true, false, not, ◌&&◌, ◌||◌}
use Rattle.std.specs.Prelude.{if◌then◌else◌, List, [], ◌∷◌, ◌++◌, map, length, Option, Some, None}
use Rattle.std.specs.Prelude.{fold, flat_map, slice_get}
use Rattle.std.specs.List.{list_any}
use Rattle.std.specs.Str.{bytes_eq}
use Rattle.sot_text.specs.declared.token.Span.{Span}
use Rattle.sot_text.specs.Place.{rank}
use Rattle.sot_syntax_tree.specs.declared.tree.Ident.{Ident}
use Rattle.sot_syntax_tree.specs.declared.tree.Lit.{Lit}
use Rattle.sot_syntax_tree.specs.declared.tree.Bounds.{Bounds}
use Rattle.sot_syntax_tree.specs.declared.tree.Scalar.{Scalar}
use Rattle.sot_syntax_tree.specs.declared.tree.Scalar.TheVariants.{Int, Fix, Bool as BoolScalar}
use Rattle.sot_syntax_tree.specs.declared.tree.Const.{Const}
use Rattle.sot_syntax_tree.specs.declared.tree.Field.{Field}
use Rattle.sot_syntax_tree.specs.declared.tree.StateDecl.{StateDecl}
use Rattle.sot_syntax_tree.specs.Trees.{Tree, Trees, number, truth, named, binary, rest, negated}
use Rattle.sot_syntax_tree.specs.Trees.{denied}
use Rattle.sot_syntax_tree.specs.Trees.{called, rescaled, chosen, no_tree, one_more, Statement}
use Rattle.sot_syntax_tree.specs.Trees.{Block}
use Rattle.sot_syntax_tree.specs.Trees.{assigned, published, branched, repeated, no_statement}
use Rattle.sot_syntax_tree.specs.Trees.{statement}
use Rattle.sot_syntax_tree.specs.Trees.{Topic, Plant, Node, Module, Local, Next, Area, Declaration}
use Rattle.sot_syntax_tree.specs.Trees.{a_topic, a_plant, a_node, a_module, Program}
use Rattle.sot_rules.specs.declared.fault.TypeFault.{TypeFault}
use Rattle.sot_rules.specs.declared.fault.TypeKind.{TypeKind}
use Rattle.sot_rules.specs.declared.fault.TypeKind.TheVariants.{Unknown, Twice, ScaleDiffers}
use Rattle.sot_rules.specs.declared.fault.TypeKind.TheVariants.{KindDiffers, RangeEmpty}
use Rattle.sot_rules.specs.declared.fault.TypeKind.TheVariants.{InitOutside, ReadsAndWrites}
use Rattle.sot_rules.specs.declared.fault.TypeKind.TheVariants.{TooMany, RangeWide, NoModule}
use Rattle.sot_rules.specs.declared.fault.TypeKind.TheVariants.{PeriodOutside, NextMissing}
use Rattle.sot_rules.specs.declared.expressions.sort.Sort.{Sort}
use Rattle.sot_rules.specs.declared.expressions.sort.Sort.TheVariants.{Scaled}
use Rattle.sot_rules.specs.Sorts.{scale_sort, scalar_sort, const_sort, is_truthful, is_scaled}
use Rattle.sot_rules.specs.Sorts.{differ, are_mixed, kinds_misfit, scales_misfit, some_differ}
use Rattle.sot_rules.specs.Sorts.{branches_misfit}
use Rattle.sot_rules.specs.Names.{declared_name, meaning, is_topic, is_plant, is_node}
use Rattle.sot_rules.specs.Names.{is_environment, is_external, Thing, Scope, node_scope}
use Rattle.sot_rules.specs.Names.{plant_scope, state_scope, Reading, gives, nothing_at, reading}
use Rattle.sot_rules.specs.Names.{reading_sort}
use Rattle.sot_rules.specs.TreeSorts.{has_decimals, is_no_scale, is_zero, sort, sorts}
use Rattle.sot_rules.specs.Lists.{are_same, is_among, places}
use Rattle.sot_rules.specs.Tests.{is_empty, is_wide, starts_outside, const_place, form_scalars}
use Rattle.sot_rules.specs.Tests.{form_names, start_place, counts_differ, starts, is_off, is_late}
use Rattle.sot_rules.specs.Tests.{topic_name, plant_name, node_name, module_name, names_of}
use Rattle.sot_rules.specs.Tests.{has_module, topic_size, read_size, state_names, noise_names}
use Rattle.sot_rules.specs.Tests.{local_names, side_sorts, has_other_width, sides_of}
use Rattle.sot_rules.specs.Tests.{block_unrolled}
use Rattle.sot_rules.specs.First.{number_of}

abbrev pub fault : Span → TypeKind → TypeFault
fault at k = record { at = at; kind = k }

-- a fault, where the test says so
abbrev pub when : Bool → Span → TypeKind → List TypeFault
when fails at k = if fails then fault at k ∷ [] else []

-- the two rules on operands
abbrev pub misfits : Bool → Bool → Span → List TypeFault
misfits kind scale at = when kind at KindDiffers ++ when scale at ScaleDiffers

-- several lists, one after another
abbrev pub together : List (List TypeFault) → List TypeFault
together [] = []
together (xs ∷ more) = xs ++ together more

abbrev pub reading_faults : Reading → List TypeFault
reading_faults (gives s) = []
reading_faults (nothing_at at) = fault at Unknown ∷ []

abbrev mutual
  pub tree_faults : List Thing → Tree → List TypeFault
  tree_faults names (number l) = []
  tree_faults names (truth b at) = []
  tree_faults names (named first field) = reading_faults (reading names first field)
  tree_faults names (binary op a b at) =
      tree_faults names a ++ (tree_faults names b
      ++ misfits (kinds_misfit op (sort names a) (sort names b))
      (scales_misfit op (sort names a) (sort names b)) at)
  tree_faults names (rest a by at) =
      tree_faults names a ++ (misfits (is_truthful (sort names a))
      (differ (sort names a) (Scaled by.scale)) at ++ when (is_zero by) by.at KindDiffers)
  tree_faults names (negated a at) =
      tree_faults names a ++ when (is_truthful (sort names a)) at KindDiffers
  tree_faults names (denied a at) =
      tree_faults names a ++ when (is_scaled (sort names a)) at KindDiffers
  tree_faults names (called f parts at) =
      parts_faults names parts ++ misfits (list_any is_truthful (sorts names parts))
      (some_differ (sorts names parts)) at
  tree_faults names (rescaled a to at) =
      tree_faults names a ++ (when (is_truthful (sort names a)) at KindDiffers
      ++ when (is_no_scale to) to.at ScaleDiffers)
  tree_faults names (chosen c a b at) =
      tree_faults names c ++ (tree_faults names a
      ++ (tree_faults names b ++ misfits
      (branches_misfit (sort names c) (sort names a) (sort names b))
      (differ (sort names a) (sort names b)) at))

  pub parts_faults : List Thing → Trees → List TypeFault
  parts_faults names no_tree = []
  parts_faults names (one_more e more) = tree_faults names e ++ parts_faults names more

abbrev pub target_faults : Reading → Sort → Span → List TypeFault
target_faults target value at =
    reading_faults target ++ misfits (are_mixed (reading_sort target) value)
    (differ (reading_sort target) value) at

abbrev mutual
  pub statement_faults : Scope → Statement → List TypeFault
  statement_faults s (assigned target e) =
      tree_faults s.read e ++ target_faults (reading s.local target None) (sort s.read e) target.at
  statement_faults s (published topic field e) =
      tree_faults s.read e ++ target_faults (reading s.written topic field) (sort s.read e) topic.at
  statement_faults s (branched c taken other at) =
      tree_faults s.read c ++ (when (is_scaled (sort s.read c)) at KindDiffers
      ++ (block_faults s taken ++ block_faults s other))
  statement_faults s (repeated times body at) =
      when (has_decimals times) times.at ScaleDiffers
      ++ (when (is_off times) times.at PeriodOutside ++ block_faults s body)

  pub block_faults : Scope → Block → List TypeFault
  block_faults s no_statement = []
  block_faults s (statement a more) = statement_faults s a ++ block_faults s more

-- the names that stand before in the list, or among those that were seen
abbrev pub repeats : List (List ℕ) → List Ident → List TypeFault
repeats seen [] = []
repeats seen (i ∷ more) =
    when (list_any (bytes_eq i.name) seen) i.at Twice
    ++ repeats (if list_any (bytes_eq i.name) seen then seen else seen ++ i.name ∷ []) more

-- the first item past a limit
abbrev pub one_past : Option Span → List TypeFault
one_past None = []
one_past (Some at) = fault at TooMany ∷ []

abbrev pub past : ℕ → List Span → List TypeFault
past limit items = one_past (slice_get items limit)

-- the name with which a sum of sizes passes a limit
abbrev pub passes : (Ident → ℕ) → ℕ → ℕ → List Ident → List TypeFault
passes size limit sum [] = []
passes size limit sum (i ∷ more) =
    when (nat_le sum limit && nat_lt limit (sum + size i)) i.at TooMany
    ++ passes size limit (sum + size i) more

abbrev pub bounds_lists : Bool → Sort → Bounds → List (List TypeFault)
bounds_lists limited s b =
    when (differ s (Scaled b.lo.scale)) b.lo.at ScaleDiffers
    ∷ when (differ s (Scaled b.hi.scale)) b.hi.at ScaleDiffers
    ∷ when (is_empty b) b.lo.at RangeEmpty
    ∷ when (limited && is_wide b) b.lo.at RangeWide
    ∷ []

abbrev pub bounds_faults : Bool → Sort → Bounds → List TypeFault
bounds_faults limited s b = together (bounds_lists limited s b)

abbrev pub scalar_faults : Bool → Scalar → List TypeFault
scalar_faults limited (Int b) = bounds_faults limited (Scaled 0) b
scalar_faults limited (Fix d b) =
    when (is_no_scale d) d.at ScaleDiffers ++ bounds_faults limited (scale_sort d) b
scalar_faults limited (BoolScalar at) = []

abbrev pub start_faults : Scalar → Const → List TypeFault
start_faults s c =
    target_faults (gives (scalar_sort s)) (const_sort c) (const_place c)
    ++ when (starts_outside s c) (const_place c) InitOutside

abbrev pub times_lists : Lit → Lit → List (List TypeFault)
times_lists period offset =
    when (has_decimals period) period.at ScaleDiffers
    ∷ when (has_decimals offset) offset.at ScaleDiffers
    ∷ when (is_off period) period.at PeriodOutside
    ∷ when (is_late period offset) offset.at PeriodOutside
    ∷ []

abbrev pub times_faults : Lit → Lit → List TypeFault
times_faults period offset = together (times_lists period offset)

abbrev pub topic_lists : Topic → List (List TypeFault)
topic_lists t =
    repeats [] (form_names t.shape)
    ∷ past 8 (places (form_names t.shape))
    ∷ flat_map (scalar_faults true) (form_scalars t.shape)
    ∷ when (counts_differ t) (start_place t.init) KindDiffers
    ∷ flat_map (λ x. start_faults x.0 x.1) (starts t)
    ∷ []

abbrev pub scale_faults : Option Lit → List TypeFault
scale_faults None = []
scale_faults (Some d) = when (is_no_scale d) d.at ScaleDiffers

-- a name in a list of inputs, of seen plants
abbrev pub input_faults : Program → Plant → Ident → List TypeFault
input_faults p q i =
    when (not (is_topic (meaning p i))) i.at Unknown
    ++ when (is_topic (meaning p i) && is_among i (state_names q)) i.at Twice

abbrev pub seen_lists : Program → Plant → Ident → List (List TypeFault)
seen_lists p q i =
    when (not (is_topic (meaning p i)) && not (is_plant (meaning p i))) i.at Unknown
    ∷ when (is_topic (meaning p i)) i.at KindDiffers
    ∷ when (is_plant (meaning p i) && are_same i q.name) i.at KindDiffers
    ∷ when (is_plant (meaning p i) && (not (are_same i q.name) && is_among i (state_names q))) i.at
    Twice
    ∷ []

abbrev pub noise_lists : Plant → Field → List (List TypeFault)
noise_lists q f =
    when (is_among f.name (state_names q ++ q.inputs ++ q.sees)) f.name.at Twice
    ∷ when (is_truthful (scalar_sort f.scalar)) f.name.at KindDiffers
    ∷ scalar_faults true f.scalar
    ∷ []

abbrev pub next_faults : Program → Plant → Next → List TypeFault
next_faults p q n =
    tree_faults (plant_scope p q) n.value
    ++ target_faults (reading (state_scope q) n.name None) (sort (plant_scope p q) n.value)
    n.name.at

-- the clauses that do not give the state variable at their place
abbrev pub order_faults : List StateDecl → List Next → List TypeFault
order_faults states [] = []
order_faults [] (n ∷ more) = fault n.name.at NextMissing ∷ order_faults [] more
order_faults (s ∷ states) (n ∷ more) =
    when (not (are_same n.name s.name)) n.name.at NextMissing ++ order_faults states more

abbrev pub plant_lists : Program → Plant → List (List TypeFault)
plant_lists p q =
    when (not (has_module p q.name)) q.name.at NoModule
    ∷ repeats [] (state_names q)
    ∷ past 4 (places (state_names q))
    ∷ flat_map (λ s. scale_faults s.scale) q.states
    ∷ flat_map (input_faults p q) q.inputs
    ∷ repeats [] q.inputs
    ∷ passes (λ i. topic_size (meaning p i)) 8 0 q.inputs
    ∷ flat_map (λ i. together (seen_lists p q i)) q.sees
    ∷ repeats [] q.sees
    ∷ past 16 (places q.sees)
    ∷ flat_map (λ f. together (noise_lists q f)) q.noise
    ∷ repeats [] (noise_names q)
    ∷ past 4 (places (noise_names q))
    ∷ flat_map (next_faults p q) q.next
    ∷ order_faults q.states q.next
    ∷ when (nat_lt (length q.next) (length q.states)) q.end NextMissing
    ∷ []

abbrev pub read_faults : Program → Ident → List TypeFault
read_faults p i = when (not (is_topic (meaning p i)) && not (is_plant (meaning p i))) i.at Unknown

abbrev pub write_lists : Program → Node → Ident → List (List TypeFault)
write_lists p n i =
    when (not (is_topic (meaning p i))) i.at Unknown
    ∷ when (is_environment (meaning p i)) i.at KindDiffers
    ∷ when (is_topic (meaning p i) && is_among i n.reads) i.at ReadsAndWrites
    ∷ []

abbrev pub local_lists : Node → Local → List (List TypeFault)
local_lists n l =
    when (is_among l.name (n.reads ++ n.writes)) l.name.at Twice
    ∷ scalar_faults false l.scalar
    ∷ start_faults l.scalar l.init
    ∷ []

abbrev pub body_faults : Scope → Option Block → List TypeFault
body_faults s None = []
body_faults s (Some body) = block_faults s body ++ past 10000 (block_unrolled body)

abbrev pub node_lists : Program → Node → List (List TypeFault)
node_lists p n =
    times_faults n.period n.offset
    ∷ flat_map (read_faults p) n.reads
    ∷ repeats [] n.reads
    ∷ passes (λ i. read_size (meaning p i)) 64 0 n.reads
    ∷ flat_map (λ i. together (write_lists p n i)) n.writes
    ∷ repeats [] n.writes
    ∷ passes (λ i. topic_size (meaning p i)) 8 0 n.writes
    ∷ flat_map (λ l. together (local_lists n l)) n.locals
    ∷ repeats [] (local_names n)
    ∷ past 16 (places (local_names n))
    ∷ body_faults (node_scope p n) n.body
    ∷ []

abbrev pub area_faults : Option (List Sort) → Area → List TypeFault
area_faults width b =
    when (has_other_width width b) b.at KindDiffers
    ++ flat_map (λ x. bounds_faults false x.0 x.1) (sides_of width b)

abbrev pub region_faults : Option (List Sort) → List Area → List TypeFault
region_faults width boxes = flat_map (area_faults width) boxes ++ past 256 (map (λ b. b.at) boxes)

abbrev pub module_lists : Program → Module → List (List TypeFault)
module_lists p m =
    when (not (is_node (meaning p m.ac))) m.ac.at Unknown
    ∷ when (not (is_node (meaning p m.sc))) m.sc.at Unknown
    ∷ when (is_external (meaning p m.sc)) m.sc.at KindDiffers
    ∷ when (are_same m.ac m.sc) m.sc.at Twice
    ∷ times_faults m.period m.offset
    ∷ when (not (is_topic (meaning p m.plant)) && not (is_plant (meaning p m.plant))) m.plant.at
    Unknown
    ∷ when (is_topic (meaning p m.plant)) m.plant.at KindDiffers
    ∷ region_faults (side_sorts (meaning p m.plant)) m.safe
    ∷ region_faults (side_sorts (meaning p m.plant)) m.safer
    ∷ []

abbrev pub declaration_faults : Program → Declaration → List TypeFault
declaration_faults p (a_topic t) = together (topic_lists t)
declaration_faults p (a_plant q) = together (plant_lists p q)
declaration_faults p (a_node n) = together (node_lists p n)
declaration_faults p (a_module m) = together (module_lists p m)

abbrev pub program_lists : Program → List (List TypeFault)
program_lists p =
    repeats [] (map declared_name p.decls)
    ∷ past 512 (places (names_of topic_name p))
    ∷ past 300 (places (names_of node_name p))
    ∷ past 100 (places (names_of module_name p))
    ∷ past 100 (places (names_of plant_name p))
    ∷ flat_map (declaration_faults p) p.decls
    ∷ []

unfoldable pub faults : Program → List TypeFault
faults p = together (program_lists p)

-- the first fault so far, and one more
abbrev pub is_before : TypeFault → TypeFault → Bool
is_before f g =
    nat_lt (rank f.at) (rank g.at) || ((rank f.at == rank g.at) && nat_lt (number_of f.kind)
    (number_of g.kind))

abbrev pub lesser : Option TypeFault → TypeFault → Option TypeFault
lesser None g = Some g
lesser (Some f) g = if is_before g f then Some g else Some f

-- the least of these faults and of the first so far
abbrev pub least : Option TypeFault → List TypeFault → Option TypeFault
least first fs = fold lesser first fs
