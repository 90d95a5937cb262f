-- What is tested of ranges, initial values, periods, limits and plants.
use Rattle.std.specs.Prelude.{ℕ, zero, suc, ◌^◌, ◌==◌, pos, ◌+ℤ◌, ◌-ℤ◌, int_lt, int_le, Bool, true}
use Rattle.std.specs.Prelude.{false, not, ◌&&◌, ◌||◌, List, [], ◌∷◌, ◌++◌, map, length, zip, Option}
use Rattle.std.specs.Prelude.{Some, None, filter_map, nat_abs}
use Rattle.std.specs.List.{list_any}
use Rattle.sot_text.specs.declared.token.Span.{Span}
use Rattle.sot_syntax_tree.specs.declared.tree.Ident.{Ident}
use Rattle.sot_syntax_tree.specs.declared.tree.Lit.{Lit}
use Rattle.sot_syntax_tree.specs.declared.tree.Bounds.{Bounds}
use Rattle.sot_syntax_tree.specs.declared.tree.Scalar.{Scalar}
use Rattle.sot_syntax_tree.specs.declared.tree.Scalar.TheVariants.{Int, Fix}
use Rattle.sot_syntax_tree.specs.declared.tree.Const.{Const}
use Rattle.sot_syntax_tree.specs.declared.tree.Const.TheVariants.{Number, Truth}
use Rattle.sot_syntax_tree.specs.declared.tree.StateDecl.{StateDecl}
use Rattle.sot_syntax_tree.specs.Trees.{Form, one, fields, Start, one_value, values, Topic, Plant}
use Rattle.sot_syntax_tree.specs.Trees.{Node}
use Rattle.sot_syntax_tree.specs.Trees.{Area, Declaration, a_topic, a_plant, a_node, a_module}
use Rattle.sot_syntax_tree.specs.Trees.{Program}
use Rattle.sot_syntax_tree.specs.Trees.{Statement, Block, assigned, published, branched, repeated}
use Rattle.sot_syntax_tree.specs.Trees.{no_statement, statement}
use Rattle.sot_rules.specs.declared.expressions.sort.Sort.{Sort}
use Rattle.sot_rules.specs.declared.expressions.sort.Sort.TheVariants.{Scaled, Anything}
use Rattle.sot_rules.specs.Sorts.{scalar_sort, state_sort}
use Rattle.sot_rules.specs.Lists.{are_same}

-- ends of one scale, of which the lower is above the upper
abbrev pub is_empty : Bounds → Bool
is_empty b = (b.lo.scale == b.hi.scale) && int_lt b.hi.mantissa b.lo.mantissa

-- ends of one scale, with more than 2^32 numbers
abbrev pub is_wide : Bounds → Bool
is_wide b =
    (b.lo.scale == b.hi.scale) && int_lt (pos (2 ^ 32)) ((b.hi.mantissa -ℤ b.lo.mantissa) +ℤ pos 1)

-- a number that is not within ends of its scale
abbrev pub is_outside : Bounds → Lit → Bool
is_outside b l =
    ((b.lo.scale == l.scale) && (b.hi.scale == l.scale))
    && (int_lt l.mantissa b.lo.mantissa || int_lt b.hi.mantissa l.mantissa)

abbrev pub sort_is : Sort → ℕ → Bool
sort_is (Scaled s) scale = s == scale
sort_is _ scale = false

-- an initial value of the scalar's own scale, outside its range
abbrev pub starts_outside : Scalar → Const → Bool
starts_outside (Int b) (Number l) = sort_is (scalar_sort (Int b)) l.scale && is_outside b l
starts_outside (Fix d b) (Number l) = sort_is (scalar_sort (Fix d b)) l.scale && is_outside b l
starts_outside _ _ = false

abbrev pub const_place : Const → Span
const_place (Number l) = l.at
const_place (Truth b at) = at

abbrev pub form_scalars : Form → List Scalar
form_scalars (one s) = s ∷ []
form_scalars (fields fs) = map (λ f. f.scalar) fs

abbrev pub form_names : Form → List Ident
form_names (one s) = []
form_names (fields fs) = map (λ f. f.name) fs

abbrev pub start_values : Start → List Const
start_values (one_value c) = c ∷ []
start_values (values cs at) = cs

abbrev pub start_place : Start → Span
start_place (one_value c) = const_place c
start_place (values cs at) = at

-- a topic has one initial value a scalar
abbrev pub counts_differ : Topic → Bool
counts_differ t = not (length (form_scalars t.shape) == length (start_values t.init))

-- a scalar and its initial value, where there are as many of both
abbrev pub starts : Topic → List (Scalar × Const)
starts t =
    elim (counts_differ t) as (λ x. List (Scalar × Const))
    [ true ↦ [] | false ↦ zip (form_scalars t.shape) (start_values t.init) ]

-- a whole number that is not 1 to 1,000
abbrev pub is_off : Lit → Bool
is_off l = (l.scale == 0) && (int_lt l.mantissa (pos 1) || int_lt (pos 1000) l.mantissa)

-- whole numbers, of which the offset is not below the period
abbrev pub is_late : Lit → Lit → Bool
is_late period offset =
    (period.scale == 0) && ((offset.scale == 0) && int_le period.mantissa offset.mantissa)

-- declarations of one sort
abbrev pub topic_name : Declaration → Option Ident
topic_name (a_topic t) = Some t.name
topic_name _ = None

abbrev pub plant_name : Declaration → Option Ident
plant_name (a_plant q) = Some q.name
plant_name _ = None

abbrev pub node_name : Declaration → Option Ident
node_name (a_node n) = Some n.name
node_name _ = None

abbrev pub module_name : Declaration → Option Ident
module_name (a_module m) = Some m.name
module_name _ = None

abbrev pub names_of : (Declaration → Option Ident) → Program → List Ident
names_of name p = filter_map name p.decls

-- whether some module names the plant as its own
abbrev pub is_plant_of : Ident → Declaration → Bool
is_plant_of i (a_module m) = are_same m.plant i
is_plant_of i _ = false

abbrev pub has_module : Program → Ident → Bool
has_module p i = list_any (is_plant_of i) p.decls

-- how many scalars and states a name stands for
abbrev pub topic_size : Option Declaration → ℕ
topic_size (Some (a_topic t)) = length (form_scalars t.shape)
topic_size _ = 0

abbrev pub read_size : Option Declaration → ℕ
read_size (Some (a_topic t)) = length (form_scalars t.shape)
read_size (Some (a_plant q)) = length q.states
read_size _ = 0

abbrev pub state_names : Plant → List Ident
state_names q = map (λ s. s.name) q.states

abbrev pub noise_names : Plant → List Ident
noise_names q = map (λ f. f.name) q.noise

abbrev pub local_names : Node → List Ident
local_names n = map (λ l. l.name) n.locals

-- whether the state variable at this place has this name
abbrev pub is_state : Ident → Option StateDecl → Bool
is_state i None = false
is_state i (Some s) = are_same i s.name

-- the sorts of the sides of a region's boxes, where its plant is one
abbrev pub side_sorts : Option Declaration → Option (List Sort)
side_sorts (Some (a_plant q)) = Some (map state_sort q.states)
side_sorts _ = None

abbrev pub has_other_width : Option (List Sort) → Area → Bool
has_other_width None b = false
has_other_width (Some sorts) b = not (length sorts == length b.sides)

-- the sides of a box with what they are to fit: anything, where the plant is not known or the
-- widths differ
abbrev pub free_sides : Area → List (Sort × Bounds)
free_sides b = map (λ s. (Anything, s)) b.sides

abbrev pub sides_of : Option (List Sort) → Area → List (Sort × Bounds)
sides_of None b = free_sides b
sides_of (Some sorts) b =
    elim (has_other_width (Some sorts) b) as (λ x. List (Sort × Bounds))
    [ true ↦ free_sides b | false ↦ zip sorts b.sides ]

-- a list so many times
abbrev pub copies : ℕ → List Span → List Span
copies zero xs = []
copies (suc n) xs = xs ++ copies n xs

-- the places of statements in the order in which they are met with loops unrolled
abbrev mutual
  pub unrolled : Statement → List Span
  unrolled (assigned target value) = target.at ∷ []
  unrolled (published topic field value) = topic.at ∷ []
  unrolled (branched c taken other at) = at ∷ (block_unrolled taken ++ block_unrolled other)
  unrolled (repeated times body at) = at ∷ copies (nat_abs times.mantissa) (block_unrolled body)

  pub block_unrolled : Block → List Span
  block_unrolled no_statement = []
  block_unrolled (statement s more) = unrolled s ++ block_unrolled more
