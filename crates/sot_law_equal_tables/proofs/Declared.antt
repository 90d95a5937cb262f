-- How many scalars and values a declaration has does not tell places.
use Rattle.std.proofs.Common.{◌≡◌, Bool, not, List, [], map, length, zip, refl, ap, ◌∙◌}
use Rattle.std.specs.Prelude.{◌==◌, true, false}
use Rattle.sot_syntax_tree.specs.declared.tree.Scalar.{Scalar}
use Rattle.sot_syntax_tree.specs.declared.tree.Field.{Field}
use Rattle.sot_syntax_tree.specs.declared.tree.Const.{Const}
use Rattle.sot_syntax_tree.specs.Trees.{Form, one, fields, Start, one_value, values, Topic}
use Rattle.sot_rules.specs.Tests.{form_scalars, form_names, start_values, counts_differ, starts}
use Rattle.sot_law_print_parse.specs.Unplaced.{unplaced_name, unplaced_scalar, unplaced_field, unplaced_const, unplaced_shape, unplaced_start, unplaced_topic}
use Rattle.sot_law_equal_tables.proofs.Lists.{length_same, map_swap, zip_same}

pub form_scalars_same : (s : Form) → form_scalars (unplaced_shape s) ≡ map unplaced_scalar (form_scalars s)
form_scalars_same (one s) = refl
form_scalars_same (fields fs) = map_swap unplaced_field (λ (f : Field). f.scalar) unplaced_scalar (λ (f : Field). f.scalar) (λ f. refl) fs

pub form_names_same : (s : Form) → form_names (unplaced_shape s) ≡ map unplaced_name (form_names s)
form_names_same (one s) = refl
form_names_same (fields fs) = map_swap unplaced_field (λ (f : Field). f.name) unplaced_name (λ (f : Field). f.name) (λ f. refl) fs

pub start_values_same : (s : Start) → start_values (unplaced_start s) ≡ map unplaced_const (start_values s)
start_values_same (one_value c) = refl
start_values_same (values cs at) = refl

pub scalar_count_same : (s : Form) → length (form_scalars (unplaced_shape s)) ≡ length (form_scalars s)
scalar_count_same s = ap length (form_scalars_same s) ∙ length_same unplaced_scalar (form_scalars s)

pub counts_differ_same : (t : Topic) → counts_differ (unplaced_topic t) ≡ counts_differ t
counts_differ_same t = λ j. not (scalar_count_same t.shape j == (ap length (start_values_same t.init) ∙ length_same unplaced_const (start_values t.init)) j)

-- scalars with their initial values
abbrev pub unplaced_pair : Scalar × Const → Scalar × Const
unplaced_pair x = (unplaced_scalar x.0, unplaced_const x.1)

pub starts_same : (t : Topic) → starts (unplaced_topic t) ≡ map unplaced_pair (starts t)
starts_same t =
    (λ j. elim (counts_differ_same t j) as (λ x. List (Scalar × Const)) [ true ↦ [] | false ↦ zip (form_scalars_same t.shape j) (start_values_same t.init j) ])
    ∙ pairs_same (counts_differ t) (form_scalars t.shape) (start_values t.init)
  where
    pairs_same : (b : Bool) (ss : List Scalar) (cs : List Const)
        → elim b as (λ x. List (Scalar × Const)) [ true ↦ [] | false ↦ zip (map unplaced_scalar ss) (map unplaced_const cs) ]
        ≡ map unplaced_pair (elim b as (λ x. List (Scalar × Const)) [ true ↦ [] | false ↦ zip ss cs ])
    pairs_same true ss cs = refl
    pairs_same false ss cs = zip_same unplaced_scalar unplaced_const ss cs
