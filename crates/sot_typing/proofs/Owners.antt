-- The names that a plant or a node may use, and which of them are truth values, in the program and in its tables.
use Rattle.std.proofs.Common.{◌≡◌, ◌∙◌, ℕ, zero, suc, ◌+◌, ◌<◌, ◌≤◌, ◌⊎◌, inl, inr, List, [], ◌∷◌, ◌++◌, map, length, flat_map, filter_map, replicate, refl}
use Rattle.std.proofs.Common.{sym, ap, subst, Option, Some, None, Bool, true, false, append-nil, arith}
use Rattle.std.specs.List.{cons_option}
use Rattle.std.proofs.lemmas.List.{length-map, map-append, replicate-append-replicate}
use Rattle.std.proofs.lemmas.Option.{get_or_from_slice_get}
use Rattle.std.proofs.lemmas.Grind.{flat_map-append}
use Rattle.sot_lists.specs.Places.{At, Has}
use Rattle.sot_lists.proofs.Places.{same_items}
use Rattle.sot_syntax_tree.specs.declared.tree.Ident.{Ident}
use Rattle.sot_syntax_tree.specs.declared.tree.Field.{Field}
use Rattle.sot_syntax_tree.specs.declared.tree.Scalar.{Scalar}
use Rattle.sot_syntax_tree.specs.declared.tree.StateDecl.{StateDecl}
use Rattle.sot_lang.specs.declared.tables.ScalarInfo.{ScalarInfo}
use Rattle.sot_lang.specs.declared.tables.StateInfo.{StateInfo}
use Rattle.sot_lang.specs.declared.tables.NoiseInfo.{NoiseInfo}
use Rattle.sot_lang.specs.declared.tables.LocalInfo.{LocalInfo}
use Rattle.sot_lang.specs.declared.tables.Slot.{Slot}
use Rattle.sot_lang.specs.declared.tables.Slot.TheVariants.{Scalar as ScalarSlot, State}
use Rattle.sot_lang.specs.OwnerNames.{width_of, seen_width, is_truth_scalar, reads_truth}
use Rattle.sot_lang.specs.Tables.{Tables}
use Rattle.sot_syntax_tree.specs.Trees.{Form, one, fields, Topic, Plant, Local, Declaration, a_topic, a_plant, a_node, a_module, Program}
use Rattle.sot_rules.specs.declared.expressions.sort.Sort.{Sort}
use Rattle.sot_rules.specs.declared.expressions.sort.Sort.TheVariants.{Scaled}
use Rattle.sot_rules.specs.First.{IsFaultless}
use Rattle.sot_rules.specs.Fails.{scalar}
use Rattle.sot_rules.specs.Sorts.{scalar_sort, state_sort, is_truthful}
use Rattle.sot_rules.specs.Names.{Thing, meaning, form_parts, field_part, state_part, topic_thing, plant_thing, local_thing, state_thing, noise_thing}
use Rattle.sot_rules.specs.Names.{topic_meant, plant_meant, either_meant}
use Rattle.sot_rules.specs.Tests.{form_scalars}
use Rattle.sot_typing.specs.Resolved.{topics, topic_place, plant_place, scalar_count, first_scalar, counted_from, scalars_meant, slots_meant, state_info}
use Rattle.sot_typing.specs.Resolved.{noise_info, local_info}
use Rattle.sot_typing.proofs.Lists.{at_map, at_mapped, of_append, at_same}
use Rattle.sot_typing.proofs.Joined.{of_counted, length_counted}
use Rattle.sot_typing.proofs.Meanings.{topic_at, plant_at, topic_faultless, plant_faultless, scalars_in, scalars_are, slots_in, slots_of_topic, slots_of_plant}
use Rattle.sot_typing.proofs.Ranges.{IsKnown, scalar_is}
use Rattle.sot_typing.proofs.Readings.{parts_sorts, thing_sorts}
use Rattle.sot_typing.proofs.Expressions.{AreNames}
use Rattle.sot_typing.proofs.Seen.{AreSeen}
use Rattle.sot_typing.proofs.Topics.{same_topic}
use Rattle.sot_typing.proofs.ScalarFacts.{at_scalar, scalar_in}
use Rattle.sot_typing.proofs.PlantFacts.{state_known, width_meant}

pub no_names : AreNames [] []
no_names = record { known = λ k s a. cc; same = refl }

-- names one behind the other
pub both_names : (xs ys : List Thing) (a b : List Bool) → AreNames xs a → AreNames ys b → AreNames (xs ++ ys) (a ++ b)
both_names xs ys a b x y = record {
  known =
      λ k s h. by k s (of_append (thing_sorts xs) (thing_sorts ys) k s
      (subst (λ (l : List Sort). At l k s) (flat_map-append (λ (z : Thing). parts_sorts z.parts) xs ys) h));
  same = ap (λ l. l ++ b) x.same ∙ ap (λ l. map is_truthful (thing_sorts xs) ++ l) y.same
      ∙ sym (map-append is_truthful (thing_sorts xs) (thing_sorts ys))
      ∙ ap (map is_truthful) (sym (flat_map-append (λ (z : Thing). parts_sorts z.parts) xs ys));
}
  where
    by : (k : ℕ) (s : Sort) → At (thing_sorts xs) k s ⊎ ((j : ℕ) × At (thing_sorts ys) j s × (k ≡ length (thing_sorts xs) + j)) → IsKnown s
    by k s (inl h) = x.known k s h
    by k s (inr h) = y.known h.0 s h.1

pub names_length : (xs : List Thing) (a : List Bool) → AreNames xs a → length a ≡ length (thing_sorts xs)
names_length xs a x = ap length x.same ∙ length-map (thing_sorts xs) is_truthful

-- one number that has no field
alone_names : (x : Thing) (s : Sort) (b : Bool) → parts_sorts x.parts ≡ s ∷ [] → IsKnown s → b ≡ is_truthful s → AreNames (x ∷ []) (b ∷ [])
alone_names x s b e h q =
    let l : thing_sorts (x ∷ []) ≡ s ∷ [] = append-nil (parts_sorts x.parts) ∙ e in
    record {
      known = λ k z a. only k z (subst (λ (l : List Sort). At l k z) l a);
      same = ap (λ b. b ∷ []) q ∙ ap (map is_truthful) (sym l);
    }
  where
    only : (k : ℕ) (z : Sort) → At (s ∷ []) k z → IsKnown z
    only zero z a = (let r : s ≡ z = cc in subst IsKnown r h)
    only (suc k) z a = cc

-- several numbers
several_names : (x : Thing) (sorts : List Sort) (truths : List Bool) → parts_sorts x.parts ≡ sorts → ((k : ℕ) (s : Sort) → At sorts k s → IsKnown s)
    → truths ≡ map is_truthful sorts → AreNames (x ∷ []) truths
several_names x sorts truths e h q =
    let l : thing_sorts (x ∷ []) ≡ sorts = append-nil (parts_sorts x.parts) ∙ e in
    record { known = λ k z a. h k z (subst (λ (l : List Sort). At l k z) l a); same = q ∙ ap (map is_truthful) (sym l) }

numbers : (states : List StateDecl) → ((s : StateDecl) → Has states s → (n : ℕ) × (state_sort s ≡ Scaled n) × (n ≤ 6))
    → (replicate (length states) false ≡ map is_truthful (map state_sort states)) × ((k : ℕ) (s : Sort) → At (map state_sort states) k s → IsKnown s)
numbers states h = (same states h, λ k s a. known k s (at_mapped state_sort states k s a))
  where
    known : (k : ℕ) (s : Sort) → (x : StateDecl) × At states k x × (state_sort x ≡ s) → IsKnown s
    known k s r = (let q = h r.0 (k, r.1) in subst IsKnown (sym q.1 ∙ r.2) q.2)

    same : (states : List StateDecl) → ((s : StateDecl) → Has states s → (n : ℕ) × (state_sort s ≡ Scaled n) × (n ≤ 6))
        → replicate (length states) false ≡ map is_truthful (map state_sort states)
    same [] h = refl
    same (s ∷ states) h =
        let q = h s (0, refl) in
        ap (λ b. b ∷ replicate (length states) false) (ap is_truthful (sym q.1))
        ∙ ap (λ l. is_truthful (state_sort s) ∷ l) (same states (λ z a. h z (suc a.0, a.1)))

state_sorts : (states : List StateDecl) → map (λ x. x.sort) (map state_part states) ≡ map state_sort states
state_sorts [] = refl
state_sorts (s ∷ states) = ap (λ l. state_sort s ∷ l) (state_sorts states)

field_sorts : (fs : List Field) → map (λ x. x.sort) (map field_part fs) ≡ map scalar_sort (map (λ (f : Field). f.scalar) fs)
field_sorts [] = refl
field_sorts (f ∷ fs) = ap (λ l. scalar_sort f.scalar ∷ l) (field_sorts fs)

form_sorts : (s : Form) → parts_sorts (form_parts s) ≡ map scalar_sort (form_scalars s)
form_sorts (one s) = refl
form_sorts (fields fs) = field_sorts fs

-- a plant's own states, disturbances, and a node's locals
pub state_names : (states : List StateDecl) → ((s : StateDecl) → Has states s → (n : ℕ) × (state_sort s ≡ Scaled n) × (n ≤ 6))
    → AreNames (map state_thing states) (map (λ (s : StateInfo). false) (map state_info states))
state_names [] h = no_names
state_names (s ∷ states) h =
    let q = h s (0, refl) in
    both_names (state_thing s ∷ []) (map state_thing states) (false ∷ []) _
    (alone_names (state_thing s) (state_sort s) false refl (subst IsKnown (sym q.1) q.2) (ap is_truthful (sym q.1)))
    (state_names states (λ z a. h z (suc a.0, a.1)))

pub noise_names : (noise : List Field) → ((d : Field) → Has noise d → IsKnown (scalar_sort d.scalar) × (is_truthful (scalar_sort d.scalar) ≡ false))
    → AreNames (map noise_thing noise) (map (λ (d : NoiseInfo). false) (map noise_info noise))
noise_names [] h = no_names
noise_names (d ∷ noise) h =
    let q = h d (0, refl) in
    both_names (noise_thing d ∷ []) (map noise_thing noise) (false ∷ []) _
    (alone_names (noise_thing d) (scalar_sort d.scalar) false refl q.0 (sym q.1))
    (noise_names noise (λ z a. h z (suc a.0, a.1)))

pub local_names : (locals : List Local) → ((l : Local) → Has locals l → IsKnown (scalar_sort l.scalar))
    → AreNames (map local_thing locals) (map (λ (l : LocalInfo). l.truth) (map local_info locals))
local_names [] h = no_names
local_names (l ∷ locals) h =
    both_names (local_thing l ∷ []) (map local_thing locals) (is_truthful (scalar_sort l.scalar) ∷ []) _
    (alone_names (local_thing l) (scalar_sort l.scalar) (is_truthful (scalar_sort l.scalar)) refl (h l (0, refl)) refl)
    (local_names locals (λ z a. h z (suc a.0, a.1)))

truth_at : (xs : List ScalarInfo) (k : ℕ) (i : ScalarInfo) → At xs k i → is_truth_scalar xs k ≡ i.truth
truth_at xs k i a = get_or_from_slice_get (map (λ (i : ScalarInfo). i.truth) xs) k i.truth false (at_map (λ (i : ScalarInfo). i.truth) xs k i a)

map_map : {A B C : Type 0} (g : B → C) (h : A → B) (xs : List A) → map g (map h xs) ≡ map (λ x. g (h x)) xs
map_map g h [] = refl
map_map g h (x ∷ xs) = ap (λ l. g (h x) ∷ l) (map_map g h xs)

map_all : {A : Type 0} (b : Bool) (xs : List A) → map (λ (x : A). b) xs ≡ replicate (length xs) b
map_all b [] = refl
map_all b (x ∷ xs) = ap (λ l. b ∷ l) (map_all b xs)

module _ (p : Program) (t : Tables) (s : AreSeen p t) (f : IsFaultless p) where
  -- a topic
  truth_of : (j : ℕ) (u : Topic) → At (topics p) j u → (k : ℕ) → k < scalar_count u
      → (x : Scalar) × At (form_scalars u.shape) k x × (is_truth_scalar t.scalars (first_scalar p j + k) ≡ is_truthful (scalar_sort x))
  truth_of j u a k l =
      let i = scalar_in p t s f j k u a l in
      let x = at_scalar p t s f (first_scalar p j + k) i.0 i.1 in
      let q : x.topic ≡ j = same_topic p x.topic j x.nth k x.tree u x.stands a x.below l (sym x.place) in
      let w : x.tree ≡ u = at_same (topics p) j x.tree u (subst (λ n. At (topics p) n x.tree) q x.stands) a in
      let g : first_scalar p x.topic ≡ first_scalar p j = ap (first_scalar p) q in
      let m : x.nth ≡ k = (let r = x.place in omega arith) in (
        x.scalar,
        subst (λ n. At (form_scalars u.shape) n x.scalar) m (subst (λ (v : Topic). At (form_scalars v.shape) x.nth x.scalar) w x.typed),
        truth_at t.scalars (first_scalar p j + k) i.0 i.1 ∙ ap (λ (i : ScalarInfo). i.truth) x.is,
      )

  topic_names : (j : ℕ) (u : Topic) → At (topics p) j u → AreNames (topic_thing u ∷ [])
      (map (is_truth_scalar t.scalars) (counted_from (first_scalar p j) (scalar_count u)))
  topic_names j u a =
      several_names (topic_thing u) (map scalar_sort (form_scalars u.shape))
      (map (is_truth_scalar t.scalars) (counted_from (first_scalar p j) (scalar_count u))) (form_sorts u.shape)
      (λ k z b. let r = at_mapped scalar_sort (form_scalars u.shape) k z b in
      let y = scalar_is true r.0 (λ at kind h. topic_faultless p f j u a at kind (scalar (k, r.1) h)) in
      subst IsKnown r.2 y.known)
      (same_items (map (is_truth_scalar t.scalars) (counted_from (first_scalar p j) (scalar_count u)))
      (map is_truthful (map scalar_sort (form_scalars u.shape)))
      (length-map (counted_from (first_scalar p j) (scalar_count u)) (is_truth_scalar t.scalars) ∙ length_counted (first_scalar p j) (scalar_count u)
      ∙ sym (length-map (map scalar_sort (form_scalars u.shape)) is_truthful ∙ length-map (form_scalars u.shape) scalar_sort))
      (λ k b h. let r = at_mapped (is_truth_scalar t.scalars) (counted_from (first_scalar p j) (scalar_count u)) k b h in
      let c = of_counted (first_scalar p j) (scalar_count u) k r.0 r.1 in
      let y = truth_of j u a k c.0 in
      at_map is_truthful (map scalar_sort (form_scalars u.shape)) k (scalar_sort y.0) (at_map scalar_sort (form_scalars u.shape) k y.0 y.1)
      ∙ ap Some (sym y.2 ∙ ap (is_truth_scalar t.scalars) (sym c.1) ∙ r.2)))

  meant_names : (i : Ident) (u : Topic) → meaning p i ≡ Some (a_topic u) → AreNames (topic_thing u ∷ []) (map (is_truth_scalar t.scalars) (scalars_meant p i))
  meant_names i u e =
      subst (λ (l : List ℕ). AreNames (topic_thing u ∷ []) (map (is_truth_scalar t.scalars) l)) (sym (scalars_are p i u e))
      (topic_names (topic_place p i) u (topic_at p i u e))

  -- a list of topics
  pub input_names : (names : List Ident) → AreNames (filter_map (λ i. topic_meant (meaning p i)) names)
      (map (is_truth_scalar t.scalars) (flat_map (scalars_meant p) names))
  input_names [] = no_names
  input_names (i ∷ names) = by (meaning p i) refl (input_names names)
    where
      join : map (is_truth_scalar t.scalars) (scalars_meant p i ++ flat_map (scalars_meant p) names)
          ≡ map (is_truth_scalar t.scalars) (scalars_meant p i) ++ map (is_truth_scalar t.scalars) (flat_map (scalars_meant p) names)
      join = map-append (is_truth_scalar t.scalars) (scalars_meant p i) (flat_map (scalars_meant p) names)

      nothing : (o : Option Declaration) → meaning p i ≡ o → scalars_in p i o ≡ []
          → AreNames (filter_map (λ i. topic_meant (meaning p i)) names) (map (is_truth_scalar t.scalars) (flat_map (scalars_meant p) names))
          → AreNames (filter_map (λ i. topic_meant (meaning p i)) names)
          (map (is_truth_scalar t.scalars) (scalars_meant p i ++ flat_map (scalars_meant p) names))
      nothing o e q more =
          subst (λ (l : List ℕ). AreNames (filter_map (λ i. topic_meant (meaning p i)) names)
          (map (is_truth_scalar t.scalars) (l ++ flat_map (scalars_meant p) names))) (sym (ap (scalars_in p i) e ∙ q)) more

      by : (o : Option Declaration) → meaning p i ≡ o → AreNames (filter_map (λ i. topic_meant (meaning p i)) names)
          (map (is_truth_scalar t.scalars) (flat_map (scalars_meant p) names))
          → AreNames (cons_option (topic_meant o) (filter_map (λ i. topic_meant (meaning p i)) names))
          (map (is_truth_scalar t.scalars) (scalars_meant p i ++ flat_map (scalars_meant p) names))
      by None e more = nothing None e refl more
      by (Some (a_topic u)) e more =
          subst (AreNames (topic_thing u ∷ filter_map (λ i. topic_meant (meaning p i)) names)) (sym join)
          (both_names (topic_thing u ∷ []) (filter_map (λ i. topic_meant (meaning p i)) names) _ _ (meant_names i u e) more)
      by (Some (a_plant q)) e more = nothing (Some (a_plant q)) e refl more
      by (Some (a_node n)) e more = nothing (Some (a_node n)) e refl more
      by (Some (a_module m)) e more = nothing (Some (a_module m)) e refl more

  -- a plant that is read or seen
  plant_names : (i : Ident) (q : Plant) → meaning p i ≡ Some (a_plant q) → AreNames (plant_thing q ∷ []) (replicate (length q.states) false)
  plant_names i q e =
      let r = numbers q.states (state_known p q (plant_faultless p f (plant_place p i) q (plant_at p i q e))) in
      several_names (plant_thing q) (map state_sort q.states) (replicate (length q.states) false) (state_sorts q.states) r.1 r.0

  pub seen_names : (names : List Ident) → ((i : Ident) → Has names i → (q : Plant) × (meaning p i ≡ Some (a_plant q)))
      → AreNames (filter_map (λ i. plant_meant (meaning p i)) names) (replicate (seen_width t.plants (map (plant_place p) names)) false)
  seen_names [] h = no_names
  seen_names (i ∷ names) h = by (h i (0, refl)) (seen_names names (λ z a. h z (suc a.0, a.1)))
    where
      by : (q : Plant) × (meaning p i ≡ Some (a_plant q)) → AreNames (filter_map (λ i. plant_meant (meaning p i)) names)
          (replicate (seen_width t.plants (map (plant_place p) names)) false)
          → AreNames (filter_map (λ i. plant_meant (meaning p i)) (i ∷ names)) (replicate (seen_width t.plants (map (plant_place p) (i ∷ names))) false)
      by x more =
          let w : width_of t.plants (plant_place p i) ≡ length x.0.states = width_meant p t s f i x.0 x.1 in
          let l : replicate (length x.0.states) false ++ replicate (seen_width t.plants (map (plant_place p) names)) false
          ≡ replicate (width_of t.plants (plant_place p i) + seen_width t.plants (map (plant_place p) names)) false =
          replicate-append-replicate (length x.0.states) (seen_width t.plants (map (plant_place p) names)) false
          ∙ ap (λ n. replicate (n + seen_width t.plants (map (plant_place p) names)) false) (sym w) in
          let g : plant_thing x.0 ∷ filter_map (λ i. plant_meant (meaning p i)) names ≡ filter_map (λ i. plant_meant (meaning p i)) (i ∷ names) =
          ap (λ o. cons_option (plant_meant o) (filter_map (λ i. plant_meant (meaning p i)) names)) (sym x.1) in
          subst (λ y. AreNames y (replicate (width_of t.plants (plant_place p i) + seen_width t.plants (map (plant_place p) names)) false)) g
          (subst (AreNames (plant_thing x.0 ∷ filter_map (λ i. plant_meant (meaning p i)) names)) l
          (both_names (plant_thing x.0 ∷ []) (filter_map (λ i. plant_meant (meaning p i)) names) _ _ (plant_names i x.0 x.1) more))

  -- a list of topics and plants
  slot_names : (i : Ident) (x : Thing) (o : Option Declaration) → meaning p i ≡ o → either_meant o ≡ Some x
      → AreNames (x ∷ []) (map (reads_truth t.scalars) (slots_meant p i))
  slot_names i x None e h = cc
  slot_names i x (Some (a_topic u)) e h =
      let q : topic_thing u ≡ x = cc in
      let l : map (is_truth_scalar t.scalars) (scalars_meant p i) ≡ map (reads_truth t.scalars) (slots_meant p i) =
      sym (ap (map (reads_truth t.scalars)) (slots_of_topic p i u e) ∙ map_map (reads_truth t.scalars) (λ k. ScalarSlot k) (scalars_meant p i)) in
      subst (λ (y : Thing). AreNames (y ∷ []) (map (reads_truth t.scalars) (slots_meant p i))) q (subst (AreNames (topic_thing u ∷ [])) l (meant_names i u e))
  slot_names i x (Some (a_plant r)) e h =
      let q : plant_thing r ≡ x = cc in
      let l : replicate (length r.states) false ≡ map (reads_truth t.scalars) (slots_meant p i) =
      sym (ap (map (reads_truth t.scalars)) (slots_of_plant p i r e)
      ∙ map_map (reads_truth t.scalars) (λ v. State (plant_place p i) v) (counted_from 0 (length r.states))
      ∙ map_all false (counted_from 0 (length r.states)) ∙ ap (λ n. replicate n false) (length_counted 0 (length r.states))) in
      subst (λ (y : Thing). AreNames (y ∷ []) (map (reads_truth t.scalars) (slots_meant p i))) q (subst (AreNames (plant_thing r ∷ [])) l (plant_names i r e))
  slot_names i x (Some (a_node n)) e h = cc
  slot_names i x (Some (a_module m)) e h = cc

  no_slots : (i : Ident) (o : Option Declaration) → meaning p i ≡ o → either_meant o ≡ None → slots_meant p i ≡ []
  no_slots i None e h = ap (slots_in p i) e
  no_slots i (Some (a_topic u)) e h = cc
  no_slots i (Some (a_plant q)) e h = cc
  no_slots i (Some (a_node n)) e h = ap (slots_in p i) e
  no_slots i (Some (a_module m)) e h = ap (slots_in p i) e

  pub read_names : (names : List Ident) → AreNames (filter_map (λ i. either_meant (meaning p i)) names)
      (map (reads_truth t.scalars) (flat_map (slots_meant p) names))
  read_names [] = no_names
  read_names (i ∷ names) = by (either_meant (meaning p i)) refl (read_names names)
    where
      join : map (reads_truth t.scalars) (slots_meant p i ++ flat_map (slots_meant p) names)
          ≡ map (reads_truth t.scalars) (slots_meant p i) ++ map (reads_truth t.scalars) (flat_map (slots_meant p) names)
      join = map-append (reads_truth t.scalars) (slots_meant p i) (flat_map (slots_meant p) names)

      by : (o : Option Thing) → either_meant (meaning p i) ≡ o
          → AreNames (filter_map (λ i. either_meant (meaning p i)) names) (map (reads_truth t.scalars) (flat_map (slots_meant p) names))
          → AreNames (cons_option o (filter_map (λ i. either_meant (meaning p i)) names))
          (map (reads_truth t.scalars) (slots_meant p i ++ flat_map (slots_meant p) names))
      by None e more =
          subst (λ (l : List Slot). AreNames (filter_map (λ i. either_meant (meaning p i)) names)
          (map (reads_truth t.scalars) (l ++ flat_map (slots_meant p) names))) (sym (no_slots i (meaning p i) refl e)) more
      by (Some x) e more =
          subst (AreNames (x ∷ filter_map (λ i. either_meant (meaning p i)) names)) (sym join)
          (both_names (x ∷ []) (filter_map (λ i. either_meant (meaning p i)) names) _ _ (slot_names i x (meaning p i) refl e) more)
