-- The plants of the tables of a program in which no rule fails, but for their `next` expressions.
use Rattle.std.proofs.Common.{◌≡◌, ◌∙◌, ℕ, ◌<◌, ◌≤◌, ◌≢◌, ◌⊎◌, inl, inr, List, [], ◌∷◌, map, length, flat_map, nat_abs, refl, sym, ap, subst, Option, Some}
use Rattle.std.proofs.Common.{None, true, arith}
use Rattle.std.specs.List.{position_or_len}
use Rattle.std.specs.Str.{bytes_eq}
use Rattle.std.proofs.lemmas.List.{length-map}
use Rattle.std.proofs.lemmas.Option.{slice_get_past}
use Rattle.std.proofs.lemmas.Bool.{false_from_ne_true}
use Rattle.sot_lists.specs.Places.{At, Has}
use Rattle.sot_text.specs.declared.token.Span.{Span}
use Rattle.sot_syntax_tree.specs.declared.tree.Ident.{Ident}
use Rattle.sot_syntax_tree.specs.declared.tree.Lit.{Lit}
use Rattle.sot_syntax_tree.specs.declared.tree.Field.{Field}
use Rattle.sot_syntax_tree.specs.declared.tree.StateDecl.{StateDecl}
use Rattle.sot_lang.specs.declared.tables.PlantInfo.{PlantInfo}
use Rattle.sot_lang.specs.declared.tables.StateInfo.{StateInfo}
use Rattle.sot_lang.specs.declared.tables.NoiseInfo.{NoiseInfo}
use Rattle.sot_lang.specs.declared.tables.ScalarInfo.{ScalarInfo}
use Rattle.sot_lang.specs.declared.tables.ModuleInfo.{ModuleInfo}
use Rattle.sot_lang.specs.OwnerNames.{width_of}
use Rattle.sot_lang.specs.TableRules.{IsNarrow}
use Rattle.sot_lang.specs.Tables.{Tables}
use Rattle.sot_syntax_tree.specs.Trees.{Plant, Module, Next, Declaration, a_topic, a_plant, a_node, a_module, Program}
use Rattle.sot_rules.specs.declared.fault.TypeKind.{TypeKind}
use Rattle.sot_rules.specs.declared.fault.TypeKind.TheVariants.{Unknown, ScaleDiffers, KindDiffers, TooMany, NoModule, NextMissing}
use Rattle.sot_rules.specs.declared.expressions.sort.Sort.TheVariants.{Scaled}
use Rattle.sot_rules.specs.First.{IsFaultless}
use Rattle.sot_syntax_tree.specs.Formed.{IsFormed, HasItem}
use Rattle.sot_rules.specs.Sorts.{state_sort, written_scale}
use Rattle.sot_rules.specs.Names.{meaning, is_topic, is_plant, plant_scope}
use Rattle.sot_rules.specs.Lists.{IsPast, places}
use Rattle.sot_rules.specs.Tests.{has_module, is_plant_of, is_state}
use Rattle.sot_rules.specs.TreeSorts.{is_no_scale}
use Rattle.sot_rules.specs.Fails.{PlantFails, no_module, many_states, state_scale, many_inputs, seen_unknown, seen_topic, sees_itself, many_seen, noise_scalar}
use Rattle.sot_rules.specs.Fails.{many_noise, next_order, next_short}
use Rattle.sot_typing.specs.Formulas.{formula_view}
use Rattle.sot_typing.specs.Terms.{sort_scale, formula_of}
use Rattle.sot_typing.specs.Resolved.{plants, a_module_of, plant_place, scalars_meant, state_info, noise_info, plant_table, plant_seen, PlantTable, module_info}
use Rattle.sot_typing.proofs.Lists.{at_below, at_mapped, at_same, any_of, at_kept}
use Rattle.sot_typing.proofs.Joined.{order}
use Rattle.sot_typing.proofs.Once.{not_past, same_name, name_same}
use Rattle.sot_typing.proofs.Meanings.{plant_at, plant_own, plant_faultless, plant_formed, meaning_name, a_plant_meant}
use Rattle.sot_typing.proofs.Tests.{no_false}
use Rattle.sot_typing.proofs.Ranges.{scale_known, scalar_is}
use Rattle.sot_typing.proofs.Seen.{AreSeen, of_plant, plant_in, module_in}
use Rattle.sot_typing.proofs.TopicLists.{few_listed, listed_below, listed_whole}
use Rattle.sot_lang.proofs.Owners.{width_at}

-- a state variable is a number of at most 6 decimals
pub state_known : (p : Program) (q : Plant) → ((at : Span) (k : TypeKind) → PlantFails p q at k → ⊥) → (s : StateDecl) → Has q.states s
    → (n : ℕ) × (state_sort s ≡ Scaled n) × (n ≤ 6)
state_known p q none s h = by s.scale refl
  where
    by : (o : Option Lit) → s.scale ≡ o → (n : ℕ) × (state_sort s ≡ Scaled n) × (n ≤ 6)
    by None e = (0, ap written_scale e, omega arith)
    by (Some d) e =
        (let r = scale_known d (false_from_ne_true (is_no_scale d) (λ w. none d.at ScaleDiffers (state_scale h e w))) in
        (nat_abs d.mantissa, ap written_scale e ∙ r.0, r.1))

some_length : {A : Type 0} (xs : List A) → HasItem xs → 1 ≤ length xs
some_length [] h = absurd h
some_length (x ∷ xs) h = omega arith

pub few : {A : Type 0} (limit : ℕ) (name : A → Ident) (xs : List A) → ((at : Span) → IsPast limit (places (map name xs)) at → ⊥) → length xs ≤ limit
few limit name xs h =
    let a = not_past limit (λ i. i.at) (map name xs) h in
    let b = length-map xs name in
    omega arith

-- a clause past the last state variable is at fault
next_few : (p : Program) (q : Plant) → ((at : Span) (k : TypeKind) → PlantFails p q at k → ⊥) → length q.next ≡ length q.states
next_few p q none = by (order (length q.next) (length q.states))
  where
    past : length q.states < length q.next → ⊥
    past l =
        let r = at_below q.next (length q.states) l in
        none r.0.name.at NextMissing (next_order (length q.states) r.1 (ap (is_state r.0.name) (slice_get_past q.states (length q.states) (omega arith))))

    by : (length q.next ≡ length q.states) ⊎ ((length q.next < length q.states) ⊎ (length q.states < length q.next)) → length q.next ≡ length q.states
    by (inl e) = e
    by (inr (inl l)) = absurd (none q.end NextMissing (next_short l))
    by (inr (inr l)) = absurd (past l)

-- a module's plant
module_names : (i : Ident) (d : Declaration) → is_plant_of i d ≡ true → (m : Module) × (d ≡ a_module m) × (m.plant.name ≡ i.name)
module_names i (a_topic t) e = cc
module_names i (a_plant q) e = cc
module_names i (a_node n) e = cc
module_names i (a_module m) e = (m, refl, same_name m.plant i e)

pub plant_place_by : (p : Program) (i j : Ident) → i.name ≡ j.name → plant_place p i ≡ plant_place p j
plant_place_by p i j e = ap (λ n. position_or_len (λ (q : Plant). bytes_eq n q.name.name) (plants p)) e

module _ (p : Program) (t : Tables) (s : AreSeen p t) (f : IsFaultless p) where
  -- what is seen of a plant by its name
  pub plant_meant : (i : Ident) (q : Plant) → meaning p i ≡ Some (a_plant q)
      → (info : PlantInfo) × At t.plants (plant_place p i) info × (plant_seen info ≡ plant_table p q)
  plant_meant i q e = plant_in p t s (plant_place p i) q (plant_at p i q e)

  pub width_meant : (i : Ident) (q : Plant) → meaning p i ≡ Some (a_plant q) → width_of t.plants (plant_place p i) ≡ length q.states
  width_meant i q e =
      let r = plant_meant i q e in
      width_at t.plants (plant_place p i) r.0 r.1 ∙ ap (λ (x : PlantTable). length x.states) r.2 ∙ length-map q.states state_info

  -- each plant is named by some module
  pub plant_named : (k : ℕ) (plant : PlantInfo) → At t.plants k plant → (m : ℕ) × (info : ModuleInfo) × At t.modules m info × (info.plant ≡ k)
  plant_named k plant a =
      let x = of_plant p t s k plant a in
      let h = no_false (has_module p x.0.name) (λ e. plant_faultless p f k x.0 x.1 x.0.name.at NoModule (no_module e)) in
      let r = any_of (is_plant_of x.0.name) p.decls h in
      let m = module_names x.0.name r.1 r.3 in
      let b = at_kept a_module_of p.decls r.0 r.1 m.0 r.2 (ap a_module_of m.1) in
      (b.0, module_info p m.0, module_in p t s b.0 m.0 b.1, plant_place_by p m.0.plant x.0.name m.2 ∙ (plant_own p f k x.0 x.1).1)

  -- what a plant sees is a plant
  pub seen_meant : (k : ℕ) (q : Plant) → At (plants p) k q → (i : Ident) → Has q.sees i → (r : Plant) × (meaning p i ≡ Some (a_plant r))
  seen_meant k q a i h =
      let none = plant_faultless p f k q a in
      let x = false_from_ne_true (is_topic (meaning p i)) (λ e. none i.at KindDiffers (seen_topic h e)) in
      a_plant_meant (meaning p i) (no_false (is_plant (meaning p i)) (λ e. none i.at Unknown (seen_unknown h x e)))

  seen_by : (k : ℕ) (plant : PlantInfo) (n : ℕ) → At t.plants k plant → Has plant.sees.items n
      → (q : Plant) × (i : Ident) × At (plants p) k q × Has q.sees i × (plant_place p i ≡ n)
  seen_by k plant n a h =
      let x = of_plant p t s k plant a in
      let e : plant.sees.items ≡ map (plant_place p) x.0.sees = ap (λ (y : PlantTable). y.sees) x.2 in
      let m = at_mapped (plant_place p) x.0.sees h.0 n (subst (λ (l : List ℕ). At l h.0 n) e h.1) in
      (x.0, m.0, x.1, (h.0, m.1), m.2)

  pub sees_are : (k : ℕ) (plant : PlantInfo) (n : ℕ) → At t.plants k plant → Has plant.sees.items n → (other : PlantInfo) × At t.plants n other
  sees_are k plant n a h =
      let x = seen_by k plant n a h in
      let r = seen_meant k x.0 x.2 x.1 x.3 in
      let y = plant_meant x.1 r.0 r.1 in
      (y.0, subst (λ m. At t.plants m y.0) x.4 y.1)

  pub sees_others : (k : ℕ) (plant : PlantInfo) (n : ℕ) → At t.plants k plant → Has plant.sees.items n → n ≢ k
  sees_others k plant n a h e =
      let x = seen_by k plant n a h in
      let r = seen_meant k x.0 x.2 x.1 x.3 in
      let b = plant_at p x.1 r.0 r.1 in
      let q : r.0 ≡ x.0 = at_same (plants p) k r.0 x.0 (subst (λ m. At (plants p) m r.0) (x.4 ∙ e) b) x.2 in
      let w : x.1.name ≡ x.0.name.name = meaning_name p x.1 (a_plant r.0) r.1 ∙ ap (λ (y : Plant). y.name.name) q in
      plant_faultless p f k x.0 x.2 x.1.at KindDiffers (sees_itself x.3 (ap is_plant r.1) (name_same x.1 x.0.name w))

  -- inputs are whole topics
  inputs_by : (k : ℕ) (plant : PlantInfo) (a : At t.plants k plant) → plant.inputs.items ≡ flat_map (scalars_meant p) (of_plant p t s k plant a).0.inputs
  inputs_by k plant a = ap (λ (y : PlantTable). y.inputs) (of_plant p t s k plant a).2

  pub inputs_are : (k : ℕ) (plant : PlantInfo) (n : ℕ) → At t.plants k plant → Has plant.inputs.items n → n < length t.scalars
  inputs_are k plant n a h =
      let x = of_plant p t s k plant a in
      listed_below p t s f x.0.inputs n (subst (λ (l : List ℕ). Has l n) (inputs_by k plant a) h)

  pub whole_inputs : (i : ℕ) (plant : PlantInfo) (j k : ℕ) (u v : ScalarInfo) → At t.plants i plant → Has plant.inputs.items j → At t.scalars j u
      → At t.scalars k v → u.topic ≡ v.topic → Has plant.inputs.items k
  whole_inputs i plant j k u v a h x y e =
      let r = of_plant p t s i plant a in
      subst (λ (l : List ℕ). Has l k) (sym (inputs_by i plant a))
      (listed_whole p t s f r.0.inputs j k u v (subst (λ (l : List ℕ). Has l j) (inputs_by i plant a) h) x y e)

  pub few_inputs : (k : ℕ) (plant : PlantInfo) → At t.plants k plant → length plant.inputs.items ≤ 8
  few_inputs k plant a =
      let x = of_plant p t s k plant a in
      subst (λ (l : List ℕ). length l ≤ 8) (sym (inputs_by k plant a))
      (few_listed p 8 x.0.inputs (λ at h. plant_faultless p f k x.0 x.1 at TooMany (many_inputs h)))

  pub few_seen : (k : ℕ) (plant : PlantInfo) → At t.plants k plant → length plant.sees.items ≤ 16
  few_seen k plant a =
      let x = of_plant p t s k plant a in
      let r = not_past 16 (λ (i : Ident). i.at) x.0.sees (λ at h. plant_faultless p f k x.0 x.1 at TooMany (many_seen h)) in
      let e : length plant.sees.items ≡ length x.0.sees = ap (λ (y : PlantTable). length y.sees) x.2 ∙ length-map x.0.sees (plant_place p) in
      omega arith

  -- state variables
  pub count_states : (k : ℕ) (plant : PlantInfo) (a : At t.plants k plant) → length plant.states.items ≡ length (of_plant p t s k plant a).0.states
  count_states k plant a = (let x = of_plant p t s k plant a in ap (λ (y : PlantTable). length y.states) x.2 ∙ length-map x.0.states state_info)

  pub few_states : IsFormed p → (k : ℕ) (plant : PlantInfo) → At t.plants k plant → (1 ≤ length plant.states.items) × (length plant.states.items ≤ 4)
  few_states fo k plant a =
      let x = of_plant p t s k plant a in
      let e = count_states k plant a in
      let r = few 4 (λ (s : StateDecl). s.name) x.0.states (λ at h. plant_faultless p f k x.0 x.1 at TooMany (many_states h)) in
      let o = some_length x.0.states (plant_formed p fo k x.0 x.1).some in
      (omega arith, omega arith)

  pub state_scales : (k : ℕ) (plant : PlantInfo) → At t.plants k plant → (i : ℕ) (info : StateInfo) → At plant.states.items i info → info.scale ≤ 6
  state_scales k plant a i info b =
      let x = of_plant p t s k plant a in
      let m = at_mapped state_info x.0.states i info (subst (λ (l : List StateInfo). At l i info) (ap (λ (y : PlantTable). y.states) x.2) b) in
      let r = state_known p x.0 (plant_faultless p f k x.0 x.1) m.0 (i, m.1) in
      subst (λ (z : StateInfo). z.scale ≤ 6) m.2 (subst (λ z. sort_scale z ≤ 6) (sym r.1) r.2)

  -- disturbances
  pub few_noise : (k : ℕ) (plant : PlantInfo) → At t.plants k plant → length plant.noise.items ≤ 4
  few_noise k plant a =
      let x = of_plant p t s k plant a in
      let r = few 4 (λ (d : Field). d.name) x.0.noise (λ at h. plant_faultless p f k x.0 x.1 at TooMany (many_noise h)) in
      let e : length plant.noise.items ≡ length x.0.noise = ap (λ (y : PlantTable). length y.noise) x.2 ∙ length-map x.0.noise noise_info in
      omega arith

  pub noise_ranges : (k : ℕ) (plant : PlantInfo) → At t.plants k plant → (i : ℕ) (info : NoiseInfo) → At plant.noise.items i info
      → (info.scale ≤ 6) × IsNarrow info.lo info.hi
  noise_ranges k plant a i info b =
      let x = of_plant p t s k plant a in
      let m = at_mapped noise_info x.0.noise i info (subst (λ (l : List NoiseInfo). At l i info) (ap (λ (y : PlantTable). y.noise) x.2) b) in
      let y = scalar_is true m.0.scalar (λ at kind h. plant_faultless p f k x.0 x.1 at kind (noise_scalar (i, m.1) h)) in
      subst (λ (z : NoiseInfo). (z.scale ≤ 6) × IsNarrow z.lo z.hi) m.2 (y.scale, y.narrow refl)

  -- one `next` expression a state variable
  pub one_next : (k : ℕ) (plant : PlantInfo) → At t.plants k plant → length plant.next.items ≡ length plant.states.items
  one_next k plant a =
      let x = of_plant p t s k plant a in
      let e = count_states k plant a in
      let n = next_few p x.0 (plant_faultless p f k x.0 x.1) in
      let u : length plant.next.items ≡ length x.0.next = sym (length-map plant.next.items formula_view) ∙ ap (λ (y : PlantTable). length y.next) x.2
      ∙ length-map x.0.next (λ (n : Next). formula_of (plant_scope p x.0) n.value) in
      omega arith
