-- The declarations of a program of the grammar in which no rule fails fit, and are few.
use Rattle.std.proofs.Common.{◌≡◌, ◌∙◌, ℕ, suc, ◌*◌, ◌<◌, ◌≤◌, List, [], ◌∷◌, length, map, sum_by, Option, Some, true, false, refl, sym, ap, subst, arith}
use Rattle.std.specs.List.{All}
use Rattle.std.proofs.lemmas.List.{length-map}
use Rattle.std.proofs.lemmas.List.Sums.{sum_by-cons}
use Rattle.std.proofs.lemmas.List.Elements.{All-nil, All-cons}
use Rattle.std.proofs.lemmas.Option.{get_or_from_slice_get}
use Rattle.std.proofs.lemmas.Bool.{false_from_ne_true}
use Rattle.sot_lists.specs.Places.{At, Has}
use Rattle.sot_box.specs.Sides.{Side, AreOrdered}
use Rattle.sot_text.specs.declared.token.Span.{Span}
use Rattle.sot_syntax_tree.specs.declared.tree.Bounds.{Bounds}
use Rattle.sot_syntax_tree.specs.declared.tree.Scalar.{Scalar}
use Rattle.sot_syntax_tree.specs.declared.tree.Field.{Field}
use Rattle.sot_syntax_tree.specs.declared.tree.StateDecl.{StateDecl}
use Rattle.sot_syntax_tree.specs.Trees.{Form, one, fields, Topic, Plant, Node, Module, Area, Declaration, a_topic, a_plant, a_node, a_module, Program}
use Rattle.sot_rules.specs.declared.fault.TypeKind.{TypeKind}
use Rattle.sot_rules.specs.declared.fault.TypeKind.TheVariants.{Unknown, KindDiffers, TooMany}
use Rattle.sot_rules.specs.Fails.{ScalarFails, scalar, many_fields, many_states, seen_unknown, seen_topic, noise_scalar, node_times, local_scalar, ac_unknown}
use Rattle.sot_rules.specs.Fails.{sc_unknown, module_times, plant_unknown, plant_topic, safe, safer, many_topics, many_plants, many_nodes, many_modules}
use Rattle.sot_rules.specs.First.{IsFaultless}
use Rattle.sot_syntax_tree.specs.Formed.{IsFormed, IsDeclaration, HasItem}
use Rattle.sot_rules.specs.Faults.{declaration_faults, program_lists, faults}
use Rattle.sot_rules.specs.Lists.{are_same}
use Rattle.sot_rules.specs.Names.{declared_name, meaning, is_topic, is_plant, is_node}
use Rattle.sot_rules.specs.Sorts.{state_sort}
use Rattle.sot_rules.specs.Tests.{form_scalars, topic_name, plant_name, node_name, module_name, side_sorts}
use Rattle.sot_typing.specs.Terms.{sort_scale}
use Rattle.sot_typing.specs.Resolved.{a_topic_of, a_plant_of, a_node_of, a_module_of, topics, scalar_count, state_count, side_of}
use Rattle.sot_typing.specs.Parts.{StateFits, FieldFits, LocalFits, FormFits, SideFits, AreaFits}
use Rattle.sot_typing.specs.Numbers.{FitLimits, nothing_counted}
use Rattle.sot_typing.specs.Fits.{TopicIsOwn, PlantFits, NodeFits, ModuleFits, AllFit}
use Rattle.sot_typing.proofs.Lists.{at_below, at_map, at_kept, each_at}
use Rattle.sot_typing.proofs.Declared.{of_find}
use Rattle.sot_typing.proofs.Tests.{no_false}
use Rattle.sot_typing.proofs.Meanings.{topic_own, topic_faultless, plant_faultless, node_faultless, module_faultless, a_plant_meant}
use Rattle.sot_typing.proofs.DeclaredNames.{within, topic_names, plant_names, node_names, module_names}
use Rattle.sot_typing.proofs.Small.{no_faults, nth_empty, each_empty, node_small, plant_small}
use Rattle.sot_typing.proofs.Ranges.{scalar_is}
use Rattle.sot_typing.proofs.Times.{times_are}
use Rattle.sot_typing.proofs.Topics.{as_many}
use Rattle.sot_typing.proofs.PlantFacts.{state_known, few}
use Rattle.sot_typing.proofs.ScalarFacts.{few_scalars}
use Rattle.sot_typing.proofs.ModuleFacts.{boxes_are}

-- what holds of each item
all_has : {A : Type 0} (P : A → Type 0) (xs : List A) → ((x : A) → Has xs x → P x) → All P xs
all_has P xs h k d lt = (let r = at_below xs k lt in subst P (sym (get_or_from_slice_get xs k r.0 d r.1)) (h r.0 (k, r.1)))

-- no fault is listed of a declaration
none_of : (p : Program) → IsFaultless p → (d : Declaration) → Has p.decls d → declaration_faults p d ≡ []
none_of p f d has =
    each_at (λ d. declaration_faults p d ≡ []) p.decls has.0 d
    (each_empty (declaration_faults p) p.decls (nth_empty (program_lists p) 5 (unfold faults in no_faults p f))) has.1

-- topics
shape_fits : (s : Form) → ((x : Scalar) (at : Span) (k : TypeKind) → Has (form_scalars s) x → ScalarFails true x at k → ⊥) → FormFits s
shape_fits (one s) none = (scalar_is true s (λ at k h. none s at k (0, refl) h)).scale
shape_fits (fields fs) none =
    all_has FieldFits fs
    (λ f h. record {
      scale = (scalar_is true f.scalar (λ at k x. none f.scalar at k (h.0, at_map (λ (f : Field). f.scalar) fs h.0 f h.1) x)).scale;
    })

-- regions
ordered_all : (sides : List Bounds) → AreOrdered (map side_of sides) → All SideFits sides
ordered_all [] h = All-nil SideFits
ordered_all (b ∷ sides) h = All-cons SideFits b sides h.0 (ordered_all sides h.1)

areas_fit : (width : ℕ) (areas : List Area) → ((i : ℕ) (b : List Side) → At (map (λ (a : Area). map side_of a.sides) areas) i b
    → (length b ≡ width) × AreOrdered b) → All (AreaFits width) areas
areas_fit width areas h =
    all_has (AreaFits width) areas
    (λ a x. let r = h x.0 (map side_of a.sides) (at_map (λ (a : Area). map side_of a.sides) areas x.0 a x.1) in
    record { width = sym (length-map a.sides side_of) ∙ r.0; sides = ordered_all a.sides r.1 })

abbrev count_meant : Option Declaration → ℕ
count_meant o = elim o as (λ x. ℕ) [ Some (a_plant q) ↦ length q.states | _ ↦ 0 ]

some_states : {A : Type 0} (xs : List A) → HasItem xs → 0 < length xs
some_states [] h = absurd h
some_states (x ∷ xs) h = omega arith

-- how many scalars topics have
few_each : (ts : List Topic) → ((j : ℕ) (t : Topic) → At ts j t → scalar_count t ≤ 8) → sum_by scalar_count ts ≤ 8 * length ts
few_each [] h = omega arith
few_each (t ∷ ts) h =
    let a = few_each ts (λ j u b. h (suc j) u b) in
    let b = h 0 t refl in
    let c = sum_by-cons scalar_count t ts in
    omega arith

module _ (p : Program) (formed : IsFormed p) (f : IsFaultless p) where
  topic_few : (j : ℕ) (t : Topic) → At (topics p) j t → scalar_count t ≤ 8
  topic_few j t b = few_scalars t.shape (λ at h. topic_faultless p f j t b at TooMany (many_fields h))

  topic_fits : (k : ℕ) (t : Topic) → At p.decls k (a_topic t) → TopicIsOwn p t
  topic_fits k t a =
      let j = at_kept a_topic_of p.decls k (a_topic t) t a refl in
      record {
        fits = record {
          shape = shape_fits t.shape (λ x at kind h s. topic_faultless p f j.0 t j.1 at kind (scalar h s));
          few = topic_few j.0 t j.1;
          starts = as_many p f j.0 t j.1;
        };
        own = (topic_own p f j.0 t j.1).0;
      }

  -- plants
  pub plant_narrow : (k : ℕ) (q : Plant) → At p.decls k (a_plant q) → length q.states ≤ 4
  plant_narrow k q a =
      let j = at_kept a_plant_of p.decls k (a_plant q) q a refl in
      few 4 (λ (s : StateDecl). s.name) q.states (λ at h. plant_faultless p f j.0 q j.1 at TooMany (many_states h))

  plant_fits : (k : ℕ) (q : Plant) → At p.decls k (a_plant q) → PlantFits p q
  plant_fits k q a =
      let j = at_kept a_plant_of p.decls k (a_plant q) q a refl in
      let none = plant_faultless p f j.0 q j.1 in
      record {
        states = all_has StateFits q.states
            (λ s h. let r = state_known p q none s h in record {
              scale = subst (λ z. sort_scale z ≤ 6) (sym r.1) r.2;
            });
        sees = all_has (λ i. is_plant (meaning p i) ≡ true) q.sees
            (λ i h.
            let t = false_from_ne_true (is_topic (meaning p i)) (λ e. none i.at KindDiffers (seen_topic h e)) in
            no_false (is_plant (meaning p i)) (λ e. none i.at Unknown (seen_unknown h t e)));
        noise = all_has FieldFits q.noise
            (λ n h. record {
              scale = (scalar_is true n.scalar (λ at kind x. none at kind (noise_scalar h x))).scale;
            });
        few = plant_small p (no_faults p f) q (none_of p f (a_plant q) (k, a));
        faultless = none_of p f (a_plant q) (k, a);
      }

  -- nodes
  node_fits : (k : ℕ) (n : Node) → At p.decls k (a_node n) → NodeFits p n
  node_fits k n a =
      let j = at_kept a_node_of p.decls k (a_node n) n a refl in
      let form = each_at IsDeclaration p.decls k (a_node n) formed a in
      let none = node_faultless p f j.0 n j.1 in
      let times = times_are n.period n.offset form.period form.offset (λ at kind h. none at kind (node_times h)) in
      record {
        period = times.0;
        offset = omega (arith, times.0, times.1);
        locals = all_has LocalFits n.locals
            (λ l h. record {
              scale = (scalar_is false l.scalar (λ at kind x. none at kind (local_scalar h x))).scale;
            });
        few = node_small p (no_faults p f) n (none_of p f (a_node n) (k, a));
        faultless = none_of p f (a_node n) (k, a);
      }

  -- modules
  module_fits : (k : ℕ) (m : Module) → At p.decls k (a_module m) → ModuleFits p m
  module_fits k m a =
      let j = at_kept a_module_of p.decls k (a_module m) m a refl in
      let form = each_at IsDeclaration p.decls k (a_module m) formed a in
      let none = module_faultless p f j.0 m j.1 in
      let times = times_are m.period m.offset form.period form.offset (λ at kind h. none at kind (module_times h)) in
      let other = false_from_ne_true (is_topic (meaning p m.plant)) (λ e. none m.plant.at KindDiffers (plant_topic e)) in
      let plant = no_false (is_plant (meaning p m.plant)) (λ e. none m.plant.at Unknown (plant_unknown other e)) in
      let q = a_plant_meant (meaning p m.plant) plant in
      let there = of_find (λ d. are_same m.plant (declared_name d)) p.decls (a_plant q.0) q.1 in
      let i = at_kept a_plant_of p.decls there.0 (a_plant q.0) q.0 there.1 refl in
      let counted : state_count p m.plant ≡ length q.0.states = ap count_meant q.1 in
      let region = boxes_are p q.0 (plant_faultless p f i.0 q.0 i.1) in
      let sorts : side_sorts (meaning p m.plant) ≡ Some (map state_sort q.0.states) = ap side_sorts q.1 in
      record {
        ac = no_false (is_node (meaning p m.ac)) (λ e. none m.ac.at Unknown (ac_unknown e));
        sc = no_false (is_node (meaning p m.sc)) (λ e. none m.sc.at Unknown (sc_unknown e));
        period = times.0;
        offset = omega (arith, times.0, times.1);
        plant = plant;
        some = subst (λ n. 0 < n) (sym counted) (some_states q.0.states (each_at IsDeclaration p.decls there.0 (a_plant q.0) formed there.1).some);
        few = subst (λ n. n ≤ 4) (sym counted) (plant_narrow there.0 q.0 there.1);
        safe = subst (λ n. All (AreaFits n) m.safe) (sym counted) (areas_fit _ m.safe (region m.safe _ sorts (λ at kind h. none at kind (safe h))));
        safer = subst (λ n. All (AreaFits n) m.safer) (sym counted) (areas_fit _ m.safer (region m.safer _ sorts (λ at kind h. none at kind (safer h))));
      }

  pub are_few : FitLimits nothing_counted p.decls
  are_few =
      let few_topics = within a_topic_of topic_name (λ (t : Topic). t.name) topic_names p 512 (λ at h. f at TooMany (many_topics h)) in
      let few_plants = within a_plant_of plant_name (λ (q : Plant). q.name) plant_names p 100 (λ at h. f at TooMany (many_plants h)) in
      let few_nodes = within a_node_of node_name (λ (n : Node). n.name) node_names p 300 (λ at h. f at TooMany (many_nodes h)) in
      let few_modules = within a_module_of module_name (λ (m : Module). m.name) module_names p 100 (λ at h. f at TooMany (many_modules h)) in
      let sum = few_each (topics p) topic_few in
      record {
        topics = omega (arith, few_topics);
        scalars = omega (arith, sum, few_topics);
        plants = omega (arith, few_plants);
        nodes = omega (arith, few_nodes);
        modules = omega (arith, few_modules);
      }

  pub all_fit : AllFit p
  all_fit k (a_topic t) a = topic_fits k t a
  all_fit k (a_plant q) a = plant_fits k q a
  all_fit k (a_node n) a = node_fits k n a
  all_fit k (a_module m) a = module_fits k m a
