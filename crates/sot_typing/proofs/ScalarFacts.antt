-- The topics and the scalars of the tables of a program in which no rule fails.
use Rattle.std.proofs.Common.{◌≡◌, ◌∙◌, ℕ, zero, suc, ◌+◌, ◌-◌, ◌<◌, ◌≤◌, pos, ◌≤ℤ◌, List, [], ◌∷◌, map, length, refl, sym, ap, subst, Option, Some, None, true}
use Rattle.std.proofs.Common.{arith}
use Rattle.std.proofs.lemmas.List.{length-map}
use Rattle.std.proofs.lemmas.Option.{same_Some, none-some}
use Rattle.sot_lists.specs.Places.{At}
use Rattle.sot_box.specs.Boxes.{IsWithin}
use Rattle.sot_text.specs.declared.token.Span.{Span}
use Rattle.sot_lang.specs.declared.tables.TopicInfo.{TopicInfo}
use Rattle.sot_lang.specs.declared.tables.ScalarInfo.{ScalarInfo}
use Rattle.sot_syntax_tree.specs.declared.tree.Field.{Field}
use Rattle.sot_lang.specs.Ranges.{scalar_ranges}
use Rattle.sot_lang.specs.TableRules.{MeetsScalarRules, IsNarrow}
use Rattle.sot_lang.specs.Tables.{Tables}
use Rattle.sot_syntax_tree.specs.Trees.{Form, one, fields, Topic, Program}
use Rattle.sot_rules.specs.declared.fault.TypeKind.TheVariants.{Twice, TooMany}
use Rattle.sot_rules.specs.First.{IsFaultless}
use Rattle.sot_syntax_tree.specs.Formed.{IsFormed, IsForm}
use Rattle.sot_rules.specs.Fails.{field_twice, many_fields, scalar, start}
use Rattle.sot_rules.specs.Lists.{IsRepeated, IsPast, places}
use Rattle.sot_rules.specs.Tests.{form_scalars, form_names}
use Rattle.sot_typing.specs.Resolved.{topics, topic_place, scalar_count, first_scalar, field_names, topic_info}
use Rattle.sot_typing.proofs.Lists.{at_lt, at_mapped, at_same}
use Rattle.sot_typing.proofs.Once.{once_map, not_past}
use Rattle.sot_typing.proofs.Meanings.{topic_own, topic_faultless, topic_formed}
use Rattle.sot_typing.proofs.Ranges.{IsTyping, scalar_is, start_is, within_each}
use Rattle.sot_typing.proofs.Seen.{AreSeen, of_topic, topic_in}
use Rattle.sot_typing.proofs.Topics.{IsScalarAt, of_scalar, scalar_there, same_topic}

-- one field has one place
field_once : (s : Form) → ((at : Span) → IsRepeated (form_names s) at → ⊥) → (m n : ℕ) (x : Option (List ℕ)) → At (field_names s) m x → At (field_names s) n x
    → m ≡ n
field_once (one s) h zero zero x a b = refl
field_once (one s) h zero (suc n) x a b = cc
field_once (one s) h (suc m) n x a b = cc
field_once (fields fs) h m n x a b =
    let r = at_mapped (λ (f : Field). Some f.name.name) fs m x a in
    let q = at_mapped (λ (f : Field). Some f.name.name) fs n x b in
    once_map (λ (f : Field). f.name) fs h m n r.0 q.0 r.1 q.1 (same_Some r.0.name.name q.0.name.name (r.2 ∙ sym q.2))

plain : (s : Form) (m : ℕ) → At (field_names s) m None → length (form_scalars s) ≡ 1
plain (one s) m a = refl
plain (fields fs) m a = (let r = at_mapped (λ (f : Field). Some f.name.name) fs m None a in absurd (none-some r.0.name.name (sym r.2)))

some_scalar : (s : Form) → IsForm s → 1 ≤ length (form_scalars s)
some_scalar (one s) f = omega arith
some_scalar (fields []) f = absurd f.0
some_scalar (fields (x ∷ fs)) f = omega arith

pub few_scalars : (s : Form) → ((at : Span) → IsPast 8 (places (form_names s)) at → ⊥) → length (form_scalars s) ≤ 8
few_scalars (one s) h = omega arith
few_scalars (fields fs) h =
    let a = not_past 8 (λ i. i.at) (map (λ (f : Field). f.name) fs) h in
    let b = length-map fs (λ (f : Field). f.name) in
    let c = length-map fs (λ (f : Field). f.scalar) in
    omega arith

-- the type and the initial value of a scalar
pub typing_is : (p : Program) → IsFaultless p → (k : ℕ) (info : ScalarInfo) (x : IsScalarAt p k info) → IsTyping true x.scalar
typing_is p f k info x = scalar_is true x.scalar (λ at kind h. topic_faultless p f x.topic x.tree x.stands at kind (scalar (x.nth, x.typed) h))

starts_inside : (p : Program) → IsFaultless p → (k : ℕ) (info : ScalarInfo) → IsScalarAt p k info → (info.lo ≤ℤ info.init) × (info.init ≤ℤ info.hi)
starts_inside p f k info x =
    let r = start_is true x.scalar x.value (λ at kind h. topic_faultless p f x.topic x.tree x.stands at kind (scalar (x.nth, x.typed) h))
    (λ at kind h. topic_faultless p f x.topic x.tree x.stands at kind (start (x.nth, x.starts) h)) in
    subst (λ (i : ScalarInfo). (i.lo ≤ℤ i.init) × (i.init ≤ℤ i.hi)) (sym x.is) r

module _ (p : Program) (t : Tables) (s : AreSeen p t) (f : IsFaultless p) where
  pub at_scalar : (k : ℕ) (info : ScalarInfo) → At t.scalars k info → IsScalarAt p k info
  at_scalar k info a = of_scalar p f k info (subst (λ (l : List ScalarInfo). At l k info) s.scalars_are a)

  pub scalar_in : (j m : ℕ) (u : Topic) → At (topics p) j u → m < scalar_count u → (info : ScalarInfo) × At t.scalars (first_scalar p j + m) info
  scalar_in j m u a l = (let r = scalar_there p f j m u a l in (r.0, subst (λ (l : List ScalarInfo). At l (first_scalar p j + m) r.0) (sym s.scalars_are) r.1))

  pub first_is : (j : ℕ) (u : Topic) → At (topics p) j u → first_scalar p (topic_place p u.name) ≡ first_scalar p j
  first_is j u a = ap (first_scalar p) (topic_own p f j u a).1

  pub scalar_below : (j m : ℕ) (u : Topic) → At (topics p) j u → m < scalar_count u → first_scalar p j + m < length t.scalars
  scalar_below j m u a l = (let r = scalar_in j m u a l in at_lt t.scalars _ r.0 r.1)

  pub inits : IsWithin (scalar_ranges t) (map (λ i. i.init) t.scalars)
  inits =
      within_each (λ (i : ScalarInfo). i.lo) (λ (i : ScalarInfo). i.hi) (λ (i : ScalarInfo). i.init) t.scalars
      (λ k x a. starts_inside p f k x (at_scalar k x a))

  pub topic_of_scalar : (k : ℕ) (info : ScalarInfo) → At t.scalars k info
      → (topic : TopicInfo) × At t.topics info.topic topic × (topic.first ≤ k) × (k < topic.first + topic.count)
  topic_of_scalar k info a =
      let x = at_scalar k info a in
      let e : x.topic ≡ info.topic = sym (ap (λ (i : ScalarInfo). i.topic) x.is) in
      let q = first_is x.topic x.tree x.stands in
      let l = x.below in
      let r = x.place in
      (topic_info p x.tree, subst (λ n. At t.topics n (topic_info p x.tree)) e (topic_in p t s x.topic x.tree x.stands), omega arith, omega arith)

  -- a place within a topic is one of its scalars
  scalar_from : (j m k : ℕ) (u : Topic) → At (topics p) j u → m < scalar_count u → first_scalar p j + m ≡ k
      → (info : ScalarInfo) × At t.scalars k info × (info.topic ≡ j)
  scalar_from j m k u a l e =
      let r = scalar_in j m u a l in
      let b : At t.scalars k r.0 = subst (λ n. At t.scalars n r.0) e r.1 in
      (r.0, b, topic_number j m k u r.0 (at_scalar k r.0 b) a l e)
    where
      topic_number : (j m k : ℕ) (u : Topic) (info : ScalarInfo) (x : IsScalarAt p k info) → At (topics p) j u → m < scalar_count u → first_scalar p j + m ≡ k
          → info.topic ≡ j
      topic_number j m k u info x a l e =
          ap (λ (i : ScalarInfo). i.topic) x.is ∙ same_topic p x.topic j x.nth m x.tree u x.stands a x.below l (sym x.place ∙ sym e)

  pub scalar_of_topic : (j k : ℕ) (topic : TopicInfo) → At t.topics j topic → topic.first ≤ k → k < topic.first + topic.count
      → (info : ScalarInfo) × At t.scalars k info × (info.topic ≡ j)
  scalar_of_topic j k topic a low high =
      let u = of_topic p t s j topic a in
      let q = first_is j u.0 u.1 in
      let e : topic.first ≡ first_scalar p j = sym (ap (λ (i : TopicInfo). i.first) u.2) ∙ q in
      let c : topic.count ≡ scalar_count u.0 = sym (ap (λ (i : TopicInfo). i.count) u.2) in
      scalar_from j (k - first_scalar p j) k u.0 u.1 (omega arith) (omega arith)

  pub scalar_meets : (k : ℕ) (info : ScalarInfo) → At t.scalars k info → MeetsScalarRules t info
  scalar_meets k info a =
      let x = at_scalar k info a in
      let y = typing_is p f k info x in
      record {
        scale = subst (λ (i : ScalarInfo). i.scale ≤ 6) (sym x.is) y.scale;
        range = subst (λ (i : ScalarInfo). IsNarrow i.lo i.hi) (sym x.is) (y.narrow refl);
        truth = subst (λ (i : ScalarInfo). i.truth ≡ true → (i.lo ≡ pos 0) × (i.hi ≡ pos 1)) (sym x.is) y.truth;
        plain = λ topic b e.
            let u = of_topic p t s info.topic topic b in
            let q : info.topic ≡ x.topic = ap (λ (i : ScalarInfo). i.topic) x.is in
            let same : u.0 ≡ x.tree = at_same (topics p) x.topic u.0 x.tree (subst (λ n. At (topics p) n u.0) q u.1) x.stands in
            let none : x.field ≡ None = sym (ap (λ (i : ScalarInfo). i.field) x.is) ∙ e in
            sym (ap (λ (i : TopicInfo). i.count) u.2) ∙ ap scalar_count same ∙ plain x.tree.shape x.nth (x.named ∙ ap Some none);
      }

  pub fields_once : (i j : ℕ) (a b : ScalarInfo) → At t.scalars i a → At t.scalars j b → a.topic ≡ b.topic → a.field ≡ b.field → i ≡ j
  fields_once i j a b u v e q =
      let x = at_scalar i a u in
      let y = at_scalar j b v in
      let n : x.topic ≡ y.topic = sym (ap (λ (i : ScalarInfo). i.topic) x.is) ∙ e ∙ ap (λ (i : ScalarInfo). i.topic) y.is in
      let same : x.tree ≡ y.tree = at_same (topics p) y.topic x.tree y.tree (subst (λ n. At (topics p) n x.tree) n x.stands) y.stands in
      let g : x.field ≡ y.field = sym (ap (λ (i : ScalarInfo). i.field) x.is) ∙ q ∙ ap (λ (i : ScalarInfo). i.field) y.is in
      let m = field_once y.tree.shape (λ at h. topic_faultless p f y.topic y.tree y.stands at Twice (field_twice h)) x.nth y.nth y.field
      (subst (λ (r : Topic). At (field_names r.shape) x.nth y.field) same (x.named ∙ ap Some g)) y.named in
      x.place ∙ ap (λ k. first_scalar p k + x.nth) n ∙ ap (λ k. first_scalar p y.topic + k) m ∙ sym y.place

  pub topic_counts : IsFormed p → (j : ℕ) (topic : TopicInfo) → At t.topics j topic → (1 ≤ topic.count) × (topic.count ≤ 8)
  topic_counts fo j topic a =
      let u = of_topic p t s j topic a in
      let few = few_scalars u.0.shape (λ at h. topic_faultless p f j u.0 u.1 at TooMany (many_fields h)) in
      let some = some_scalar u.0.shape (topic_formed p fo j u.0 u.1).1 in
      subst (λ (i : TopicInfo). (1 ≤ i.count) × (i.count ≤ 8)) u.2 (some, few)
