-- The scalars of a program's topics: they lie one topic behind another.
use Rattle.std.proofs.Common.{◌≡◌, ◌∙◌, ℕ, ◌+◌, ◌<◌, List, [], zip, length, sum_by, flat_map, refl, sym, ap, subst, Option, Some, Bool, true, false, arith}
use Rattle.std.proofs.lemmas.List.{length-map}
use Rattle.std.proofs.lemmas.Bool.{false_from_ne_true}
use Rattle.sot_lists.specs.Places.{At}
use Rattle.sot_lang.specs.declared.tables.ScalarInfo.{ScalarInfo}
use Rattle.sot_syntax_tree.specs.declared.tree.Scalar.{Scalar}
use Rattle.sot_syntax_tree.specs.declared.tree.Const.{Const}
use Rattle.sot_syntax_tree.specs.Trees.{Form, one, fields, Topic, Program}
use Rattle.sot_rules.specs.declared.fault.TypeKind.TheVariants.{KindDiffers}
use Rattle.sot_rules.specs.First.{IsFaultless}
use Rattle.sot_rules.specs.Fails.{other_count}
use Rattle.sot_rules.specs.Tests.{form_scalars, start_values, start_place, counts_differ, starts}
use Rattle.sot_typing.specs.Resolved.{topics, topic_place, scalar_count, first_scalar, field_names, scalar_info, topic_scalars}
use Rattle.sot_typing.proofs.Lists.{at_lt, at_below, at_mapped, of_zip, length_zip}
use Rattle.sot_typing.proofs.Joined.{sum_place, at_joined, of_joined, length_joined}
use Rattle.sot_typing.proofs.Meanings.{topic_own, topic_faultless}
use Rattle.sot_typing.proofs.Tests.{same_number}

pub as_many : (p : Program) → IsFaultless p → (j : ℕ) (t : Topic) → At (topics p) j t → counts_differ t ≡ false
as_many p f j t a = false_from_ne_true (counts_differ t) (λ e. topic_faultless p f j t a (start_place t.init) KindDiffers (other_count e))

abbrev starts_by : Topic → Bool → List (Scalar × Const)
starts_by t b = elim b as (λ x. List (Scalar × Const)) [ true ↦ [] | false ↦ zip (form_scalars t.shape) (start_values t.init) ]

pub starts_are : (t : Topic) → counts_differ t ≡ false → starts t ≡ zip (form_scalars t.shape) (start_values t.init)
starts_are t e = ap (starts_by t) e

pub length_starts : (t : Topic) → counts_differ t ≡ false → length (starts t) ≡ scalar_count t
length_starts t e =
    ap length (starts_are t e) ∙ length_zip (form_scalars t.shape) (start_values t.init)
    (same_number (length (form_scalars t.shape)) (length (start_values t.init)) e)

length_fields : (s : Form) → length (field_names s) ≡ length (form_scalars s)
length_fields (one s) = refl
length_fields (fields fs) = length-map fs (λ f. Some f.name.name) ∙ sym (length-map fs (λ f. f.scalar))

abbrev scalar_of : ℕ → Option (List ℕ) × (Scalar × Const) → ScalarInfo
scalar_of topic x = scalar_info topic x.0 x.1.0 x.1.1

pub length_scalars : (p : Program) (t : Topic) → counts_differ t ≡ false → length (topic_scalars p t) ≡ scalar_count t
length_scalars p t e =
    length-map (zip (field_names t.shape) (starts t)) (scalar_of (topic_place p t.name))
    ∙ length_zip (field_names t.shape) (starts t) (length_fields t.shape ∙ sym (length_starts t e)) ∙ length_fields t.shape

-- a scalar of the tables, with what it comes from
pub record IsScalarAt (p : Program) (k : ℕ) (info : ScalarInfo) : Type 0 where
  pub topic : ℕ
  pub tree : Topic
  pub nth : ℕ
  pub scalar : Scalar
  pub value : Const
  pub field : Option (List ℕ)
  pub stands : At (topics p) topic tree
  pub below : nth < scalar_count tree
  pub place : k ≡ first_scalar p topic + nth
  pub typed : At (form_scalars tree.shape) nth scalar
  pub starts : At (starts tree) nth (scalar, value)
  pub named : At (field_names tree.shape) nth field
  pub is : info ≡ scalar_info topic field scalar value

module _ (p : Program) (f : IsFaultless p) where
  abbrev pub program_scalars : List ScalarInfo
  program_scalars = flat_map (topic_scalars p) (topics p)

  pub counts : (j : ℕ) (t : Topic) → At (topics p) j t → length (topic_scalars p t) ≡ scalar_count t
  counts j t a = length_scalars p t (as_many p f j t a)

  pub of_scalar : (k : ℕ) (info : ScalarInfo) → At (flat_map (topic_scalars p) (topics p)) k info → IsScalarAt p k info
  of_scalar k info a =
      let r = of_joined (topic_scalars p) scalar_count (topics p) k info counts a in
      let m = at_mapped (scalar_of (topic_place p r.1.name)) (zip (field_names r.1.shape) (starts r.1)) r.2 info r.4 in
      let z = of_zip (field_names r.1.shape) (starts r.1) r.2 m.0 m.1 in
      let e = starts_are r.1 (as_many p f r.0 r.1 r.3) in
      let y = of_zip (form_scalars r.1.shape) (start_values r.1.init) r.2 m.0.1 (subst (λ (l : List (Scalar × Const)). At l r.2 m.0.1) e z.1) in
      record {
        topic = r.0;
        tree = r.1;
        nth = r.2;
        scalar = m.0.1.0;
        value = m.0.1.1;
        field = m.0.0;
        stands = r.3;
        below = at_lt (form_scalars r.1.shape) r.2 m.0.1.0 y.0;
        place = r.5;
        typed = y.0;
        starts = z.1;
        named = z.0;
        is = sym m.2 ∙ ap (λ n. scalar_info n m.0.0 m.0.1.0 m.0.1.1) (topic_own p f r.0 r.1 r.3).1;
      }

  pub scalar_there : (j m : ℕ) (t : Topic) → At (topics p) j t → m < scalar_count t
      → (info : ScalarInfo) × At (flat_map (topic_scalars p) (topics p)) (first_scalar p j + m) info
  scalar_there j m t a l =
      let c = counts j t a in
      let x = at_below (topic_scalars p t) m (omega arith) in
      (x.0, at_joined (topic_scalars p) scalar_count (topics p) j m t x.0 counts a x.1)

  pub scalar_total : length (flat_map (topic_scalars p) (topics p)) ≡ sum_by scalar_count (topics p)
  scalar_total = length_joined (topic_scalars p) scalar_count (topics p) counts

-- one place among the scalars is of one topic
pub same_topic : (p : Program) (i j m n : ℕ) (t u : Topic) → At (topics p) i t → At (topics p) j u → m < scalar_count t → n < scalar_count u
    → first_scalar p i + m ≡ first_scalar p j + n → i ≡ j
same_topic p i j m n t u a b l k e = sum_place scalar_count (topics p) i j m n t u a b l k e
