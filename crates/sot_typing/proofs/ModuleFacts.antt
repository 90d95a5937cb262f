-- The modules of the tables of a program in which no rule fails.
use Rattle.std.proofs.Common.{◌≡◌, ◌∙◌, ℕ, suc, ◌<◌, ◌≤◌, ◌≢◌, ◌≤ℤ◌, List, [], ◌∷◌, map, zip, length, refl, sym, ap, subst, Option, Some, None, option_map}
use Rattle.std.proofs.Common.{is_none, Bool, true, false, arith}
use Rattle.std.specs.Global.{Vec}
use Rattle.std.proofs.lemmas.List.{length-map}
use Rattle.std.proofs.lemmas.Option.{none-some}
use Rattle.std.proofs.lemmas.Bool.{false_from_ne_true}
use Rattle.sot_lists.specs.Places.{At, Has}
use Rattle.sot_box.specs.Sides.{Side, AreOrdered}
use Rattle.sot_text.specs.declared.token.Span.{Span}
use Rattle.sot_lang.specs.declared.act.Act.{Act}
use Rattle.sot_syntax_tree.specs.declared.tree.Bounds.{Bounds}
use Rattle.sot_lang.specs.declared.tables.PlantInfo.{PlantInfo}
use Rattle.sot_lang.specs.declared.tables.NodeInfo.{NodeInfo}
use Rattle.sot_lang.specs.declared.tables.ModuleInfo.{ModuleInfo}
use Rattle.sot_lang.specs.TableRules.{IsCoded, IsRegionFor, MeetsModuleRules}
use Rattle.sot_lang.specs.Tables.{Tables}
use Rattle.sot_syntax_tree.specs.Trees.{Plant, Node, Module, Area, Block, Declaration, a_plant, a_node, Program}
use Rattle.sot_rules.specs.declared.fault.TypeKind.{TypeKind}
use Rattle.sot_rules.specs.declared.fault.TypeKind.TheVariants.{Unknown, Twice, KindDiffers, TooMany}
use Rattle.sot_rules.specs.declared.expressions.sort.Sort.{Sort}
use Rattle.sot_rules.specs.First.{IsFaultless}
use Rattle.sot_syntax_tree.specs.Formed.{IsFormed}
use Rattle.sot_rules.specs.Sorts.{state_sort}
use Rattle.sot_rules.specs.Names.{meaning, is_topic, is_plant, is_node, is_external, node_scope}
use Rattle.sot_rules.specs.Tests.{side_sorts, has_other_width, sides_of, free_sides}
use Rattle.sot_rules.specs.Fails.{PlantFails, BoundsFail, RegionFails, other_width, side, many_boxes, ac_unknown, sc_unknown, sc_external, same_node}
use Rattle.sot_rules.specs.Fails.{module_times, plant_unknown, plant_topic, safe, safer}
use Rattle.sot_typing.specs.Formulas.{Deeds, deeds_view}
use Rattle.sot_typing.specs.Terms.{deeds_of}
use Rattle.sot_typing.specs.Resolved.{nodes, modules, plant_place, node_place, side_of, state_count, region_of, NodeTable}
use Rattle.sot_typing.proofs.Lists.{at_lt, at_below, at_map, at_mapped, at_same, at_zip}
use Rattle.sot_typing.proofs.Once.{not_past, name_same}
use Rattle.sot_typing.proofs.Meanings.{node_at, plant_at, plant_faultless, module_faultless, module_formed, meaning_name, a_node_meant, a_plant_meant}
use Rattle.sot_typing.proofs.Tests.{no_false, same_number}
use Rattle.sot_typing.proofs.Ranges.{range_is}
use Rattle.sot_typing.proofs.Times.{times_are}
use Rattle.sot_typing.proofs.Seen.{AreSeen, of_module, node_in}
use Rattle.sot_typing.proofs.PlantFacts.{state_known, plant_meant, width_meant}

-- a node with a body is coded
coded : (o : Option (Vec Act)) (b : Option Block) (g : Block → Deeds) → option_map (λ (v : Vec Act). deeds_view v.items) o ≡ option_map g b → is_none b ≡ false
    → (v : Vec Act) × (o ≡ Some v)
coded (Some v) b g e n = (v, refl)
coded None None g e n = cc
coded None (Some b) g e n = absurd (none-some (g b) e)

-- the sides of a box whose ends are in order
ordered_each : (sides : List Bounds) → ((k : ℕ) (b : Bounds) → At sides k b → b.lo.mantissa ≤ℤ b.hi.mantissa) → AreOrdered (map side_of sides)
ordered_each [] h = tt
ordered_each (b ∷ sides) h = (h 0 b refl, ordered_each sides (λ k c a. h (suc k) c a))

abbrev sides_by : List Sort → Area → Bool → List (Sort × Bounds)
sides_by sorts b x = elim x as (λ x. List (Sort × Bounds)) [ true ↦ free_sides b | false ↦ zip sorts b.sides ]

abbrev count_by_meaning : Option Declaration → ℕ
count_by_meaning o = elim o as (λ x. ℕ) [ Some (a_plant q) ↦ length q.states | _ ↦ 0 ]

-- the region of a plant in which no rule fails
module _ (p : Program) (q : Plant) (none : (at : Span) (k : TypeKind) → PlantFails p q at k → ⊥) (areas : List Area) (width : Option (List Sort))
    (is : width ≡ Some (map state_sort q.states)) (never : (at : Span) (k : TypeKind) → RegionFails width areas at k → ⊥) where
  one_side : (a : Area) → Has areas a → length (map state_sort q.states) ≡ length a.sides → has_other_width width a ≡ false → (k : ℕ) (b : Bounds)
      → At a.sides k b → b.lo.mantissa ≤ℤ b.hi.mantissa
  one_side a h e w k b c =
      let l = at_lt a.sides k b c in
      let m = length-map q.states state_sort in
      let s = at_below q.states k (omega arith) in
      let r = state_known p q none s.0 (k, s.1) in
      let z = at_zip (map state_sort q.states) a.sides k (state_sort s.0) b (at_map state_sort q.states k s.0 s.1) c in
      let y : At (sides_of (Some (map state_sort q.states)) a) k (state_sort s.0, b) =
      subst (λ (l : List (Sort × Bounds)). At l k (state_sort s.0, b))
      (sym (ap (sides_by (map state_sort q.states) a) (ap (λ o. has_other_width o a) (sym is) ∙ w))) z in
      let x : At (sides_of width a) k (state_sort s.0, b) = subst (λ o. At (sides_of o a) k (state_sort s.0, b)) (sym is) y in
      (range_is false r.0 b (λ at kind f. never at kind (side h (k, x) (subst (λ v. BoundsFail false v b at kind) (sym r.1) f)))).ordered

  area_width : (a : Area) → Has areas a → (has_other_width width a ≡ false) × (length (map state_sort q.states) ≡ length a.sides)
  area_width a h =
      let w = false_from_ne_true (has_other_width width a) (λ e. never a.at KindDiffers (other_width h e)) in
      (w, same_number (length (map state_sort q.states)) (length a.sides) (ap (λ o. has_other_width o a) (sym is) ∙ w))

  pub boxes_are : (i : ℕ) (b : List Side) → At (map (λ (a : Area). map side_of a.sides) areas) i b → (length b ≡ length q.states) × AreOrdered b
  boxes_are i b c =
      let m = at_mapped (λ (a : Area). map side_of a.sides) areas i b c in
      let w = area_width m.0 (i, m.1) in
      let o = ordered_each m.0.sides (one_side m.0 (i, m.1) w.1 w.0) in
      let l : length (map side_of m.0.sides) ≡ length q.states = length-map m.0.sides side_of ∙ sym w.1 ∙ length-map q.states state_sort in
      subst (λ (b : List Side). (length b ≡ length q.states) × AreOrdered b) m.2 (l, o)

  pub few_boxes : length (map (λ (a : Area). map side_of a.sides) areas) ≤ 256
  few_boxes =
      let a = not_past 256 (λ (a : Area). a.at) areas (λ at h. never at TooMany (many_boxes h)) in
      let b = length-map areas (λ (a : Area). map side_of a.sides) in
      omega arith

module _ (p : Program) (t : Tables) (s : AreSeen p t) (f : IsFaultless p) where
  -- its plant
  plant_of : (k : ℕ) (m : Module) → At (modules p) k m → (q : Plant) × (meaning p m.plant ≡ Some (a_plant q))
  plant_of k m a =
      let none = module_faultless p f k m a in
      let x = false_from_ne_true (is_topic (meaning p m.plant)) (λ e. none m.plant.at KindDiffers (plant_topic e)) in
      a_plant_meant (meaning p m.plant) (no_false (is_plant (meaning p m.plant)) (λ e. none m.plant.at Unknown (plant_unknown x e)))

  pub plant_is : (k : ℕ) (info : ModuleInfo) → At t.modules k info → (plant : PlantInfo) × At t.plants info.plant plant
  plant_is k info a =
      let x = of_module p t s k info a in
      let q = plant_of k x.0 x.1 in
      let y = plant_meant p t s f x.0.plant q.0 q.1 in
      (y.0, subst (λ (i : ModuleInfo). At t.plants i.plant y.0) x.2 y.1)

  -- its nodes
  ac_of : (k : ℕ) (m : Module) → At (modules p) k m → (n : Node) × (meaning p m.ac ≡ Some (a_node n))
  ac_of k m a = a_node_meant (meaning p m.ac) (no_false (is_node (meaning p m.ac)) (λ e. module_faultless p f k m a m.ac.at Unknown (ac_unknown e)))

  sc_of : (k : ℕ) (m : Module) → At (modules p) k m → (n : Node) × (meaning p m.sc ≡ Some (a_node n))
  sc_of k m a = a_node_meant (meaning p m.sc) (no_false (is_node (meaning p m.sc)) (λ e. module_faultless p f k m a m.sc.at Unknown (sc_unknown e)))

  pub ac_is : (k : ℕ) (info : ModuleInfo) → At t.modules k info → (node : NodeInfo) × At t.nodes info.ac node
  ac_is k info a =
      let x = of_module p t s k info a in
      let n = ac_of k x.0 x.1 in
      let y = node_in p t s (node_place p x.0.ac) n.0 (node_at p x.0.ac n.0 n.1) in
      (y.0, subst (λ (i : ModuleInfo). At t.nodes i.ac y.0) x.2 y.1)

  pub sc_is : (k : ℕ) (info : ModuleInfo) → At t.modules k info → (node : NodeInfo) × (acts : List Act) × At t.nodes info.sc node × IsCoded node acts
  sc_is k info a =
      let x = of_module p t s k info a in
      let n = sc_of k x.0 x.1 in
      let y = node_in p t s (node_place p x.0.sc) n.0 (node_at p x.0.sc n.0 n.1) in
      let e = false_from_ne_true (is_external (meaning p x.0.sc)) (λ e. module_faultless p f k x.0 x.1 x.0.sc.at KindDiffers (sc_external e)) in
      let v = coded y.0.body n.0.body (deeds_of (node_scope p n.0)) (ap (λ (z : NodeTable). z.body) y.2) (ap is_external (sym n.1) ∙ e) in
      (y.0, v.0.items, subst (λ (i : ModuleInfo). At t.nodes i.sc y.0) x.2 y.1, (v.0, v.1, refl {A = List Act}))

  pub apart : (k : ℕ) (info : ModuleInfo) → At t.modules k info → info.ac ≢ info.sc
  apart k info a e =
      let x = of_module p t s k info a in
      let m = ac_of k x.0 x.1 in
      let n = sc_of k x.0 x.1 in
      let q : node_place p x.0.ac ≡ node_place p x.0.sc = ap (λ (i : ModuleInfo). i.ac) x.2 ∙ e ∙ sym (ap (λ (i : ModuleInfo). i.sc) x.2) in
      let w : m.0 ≡ n.0 = at_same (nodes p) (node_place p x.0.sc) m.0 n.0 (subst (λ j. At (nodes p) j m.0) q (node_at p x.0.ac m.0 m.1))
      (node_at p x.0.sc n.0 n.1) in
      let name : x.0.ac.name ≡ x.0.sc.name = meaning_name p x.0.ac (a_node m.0) m.1 ∙ ap (λ (y : Node). y.name.name) w
      ∙ sym (meaning_name p x.0.sc (a_node n.0) n.1) in
      module_faultless p f k x.0 x.1 x.0.sc.at Twice (same_node (name_same x.0.ac x.0.sc name))

  -- when it decides
  pub module_times_are : IsFormed p → (k : ℕ) (info : ModuleInfo) → At t.modules k info → (info.period ≤ 1000) × (info.offset < info.period)
  module_times_are fo k info a =
      let x = of_module p t s k info a in
      let n = module_formed p fo k x.0 x.1 in
      let r = times_are x.0.period x.0.offset n.period n.offset (λ at kind h. module_faultless p f k x.0 x.1 at kind (module_times h)) in
      subst (λ (i : ModuleInfo). (i.period ≤ 1000) × (i.offset < i.period)) x.2 r

  -- its regions
  region_is : (k : ℕ) (m : Module) → At (modules p) k m → (areas : List Area)
      → ((at : Span) (kind : TypeKind) → RegionFails (side_sorts (meaning p m.plant)) areas at kind → ⊥)
      → IsRegionFor t (plant_place p m.plant) (region_of p m.plant areas)
  region_is k m a areas never =
      let q = plant_of k m a in
      let none = plant_faultless p f (plant_place p m.plant) q.0 (plant_at p m.plant q.0 q.1) in
      let e : state_count p m.plant ≡ length q.0.states = ap count_by_meaning q.1 in
      record {
        width = e ∙ sym (width_meant p t s f m.plant q.0 q.1);
        boxes = few_boxes p q.0 none areas (side_sorts (meaning p m.plant)) (ap side_sorts q.1) never;
        each = λ i b c. (let r = boxes_are p q.0 none areas (side_sorts (meaning p m.plant)) (ap side_sorts q.1) never i b c in (r.0 ∙ sym e, r.1));
      }

  pub module_meets : IsFormed p → (k : ℕ) (info : ModuleInfo) → At t.modules k info → MeetsModuleRules t info
  module_meets fo k info a =
      let x = of_module p t s k info a in
      record {
        period = (module_times_are fo k info a).0;
        safe =
            subst (λ (i : ModuleInfo). IsRegionFor t i.plant i.safe) x.2
            (region_is k x.0 x.1 x.0.safe (λ at kind h. module_faultless p f k x.0 x.1 at kind (safe h)));
        safer =
            subst (λ (i : ModuleInfo). IsRegionFor t i.plant i.safer) x.2
            (region_is k x.0 x.1 x.0.safer (λ at kind h. module_faultless p f k x.0 x.1 at kind (safer h)));
      }
