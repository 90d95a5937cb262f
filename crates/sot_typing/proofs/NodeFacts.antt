-- The nodes of the tables of a program in which no rule fails, but for their bodies.
use Rattle.std.proofs.Common.{◌≡◌, ◌∙◌, ℕ, ◌+◌, ◌<◌, ◌≤◌, ◌≤ℤ◌, List, [], map, length, flat_map, refl, sym, ap, subst, Option, Some, None, option_map, true}
use Rattle.std.proofs.Common.{false, arith}
use Rattle.std.specs.Global.{Vec}
use Rattle.std.proofs.lemmas.List.{length-map}
use Rattle.std.proofs.lemmas.Option.{none-some}
use Rattle.sot_lists.specs.Places.{At, Has}
use Rattle.sot_box.specs.Boxes.{IsWithin}
use Rattle.sot_lang.specs.declared.act.Act.{Act}
use Rattle.sot_syntax_tree.specs.declared.tree.Ident.{Ident}
use Rattle.sot_lang.specs.declared.tables.TopicInfo.{TopicInfo}
use Rattle.sot_lang.specs.declared.tables.PlantInfo.{PlantInfo}
use Rattle.sot_lang.specs.declared.tables.NodeInfo.{NodeInfo}
use Rattle.sot_lang.specs.declared.tables.LocalInfo.{LocalInfo}
use Rattle.sot_lang.specs.declared.tables.ScalarInfo.{ScalarInfo}
use Rattle.sot_lang.specs.declared.tables.Slot.{Slot}
use Rattle.sot_lang.specs.declared.tables.Slot.TheVariants.{Scalar as ScalarSlot, State}
use Rattle.sot_lang.specs.OwnerNames.{width_of}
use Rattle.sot_lang.specs.Ranges.{local_ranges}
use Rattle.sot_lang.specs.TableRules.{MeetsLocalRules}
use Rattle.sot_lang.specs.Tables.{Tables}
use Rattle.sot_syntax_tree.specs.Trees.{Topic, Plant, Local, a_plant, Program}
use Rattle.sot_rules.specs.declared.fault.TypeKind.TheVariants.{Twice, KindDiffers, ReadsAndWrites, TooMany}
use Rattle.sot_rules.specs.First.{IsFaultless}
use Rattle.sot_syntax_tree.specs.Formed.{IsFormed}
use Rattle.sot_rules.specs.Names.{meaning, is_topic, is_environment, node_scope}
use Rattle.sot_rules.specs.Lists.{is_among, are_same}
use Rattle.sot_rules.specs.Tests.{read_size}
use Rattle.sot_rules.specs.Fails.{node_times, many_read, written_twice, written_outside, written_read, many_written, local_scalar, local_start, many_locals}
use Rattle.sot_typing.specs.Formulas.{deeds_view}
use Rattle.sot_typing.specs.Terms.{deeds_of}
use Rattle.sot_typing.specs.Resolved.{topics, topic_place, plant_place, scalar_count, first_scalar, scalars_meant, slots_meant, lowest, greatest, const_number}
use Rattle.sot_typing.specs.Resolved.{local_info, NodeTable}
use Rattle.sot_typing.proofs.Lists.{at_mapped, at_same, any_at}
use Rattle.sot_typing.proofs.Joined.{of_has_joined, length_joined, has_joined}
use Rattle.sot_typing.proofs.Once.{not_passed, name_same}
use Rattle.sot_typing.proofs.Meanings.{topic_at, node_faultless, node_formed, of_scalar_slot, of_state_slot, length_slots}
use Rattle.sot_typing.proofs.Ranges.{IsTyping, scalar_is, start_is, within_each}
use Rattle.sot_typing.proofs.Times.{times_are}
use Rattle.sot_typing.proofs.Seen.{AreSeen, of_topic, of_node}
use Rattle.sot_typing.proofs.Topics.{same_topic}
use Rattle.sot_typing.proofs.ScalarFacts.{first_is}
use Rattle.sot_typing.proofs.TopicLists.{of_listed, few_listed, listed_once, listed_below, listed_whole, one_name}
use Rattle.sot_typing.proofs.PlantFacts.{few, plant_meant, width_meant}

-- a scalar that is read, as one of a list of topics' scalars
scalar_read : (p : Program) (names : List Ident) (k : ℕ) → Has (flat_map (slots_meant p) names) (ScalarSlot k) → Has (flat_map (scalars_meant p) names) k
scalar_read p names k h =
    let r = of_has_joined (slots_meant p) names (ScalarSlot k) h in
    has_joined (scalars_meant p) names r.0 k r.1 (r.2.0, of_scalar_slot p r.0 r.2.0 k r.2.1)

no_locals : {A B : Type 0} (f : A → B) (xs : List B) (ys : List A) → xs ≡ map f ys → ys ≡ [] → xs ≡ []
no_locals f xs ys e q = e ∙ ap (map f) q

no_body : {A B C : Type 0} (f : A → C) (g : B → C) (x : Option A) (y : Option B) → option_map f x ≡ option_map g y → x ≡ None → y ≡ None
no_body f g x None e q = refl
no_body f g x (Some b) e q = absurd (none-some (g b) (sym (ap (option_map f) q) ∙ e))

module _ (p : Program) (t : Tables) (s : AreSeen p t) (f : IsFaultless p) where
  -- when a node is due
  pub node_times_are : IsFormed p → (k : ℕ) (node : NodeInfo) → At t.nodes k node → (node.period ≤ 1000) × (node.offset < node.period)
  node_times_are fo k node a =
      let x = of_node p t s k node a in
      let n = node_formed p fo k x.0 x.1 in
      let r = times_are x.0.period x.0.offset n.period n.offset (λ at kind h. node_faultless p f k x.0 x.1 at kind (node_times h)) in
      subst (λ (y : NodeTable). (y.period ≤ 1000) × (y.offset < y.period)) (sym x.2) r

  -- what it reads
  reads_by : (k : ℕ) (node : NodeInfo) (a : At t.nodes k node) → node.reads.items ≡ flat_map (slots_meant p) (of_node p t s k node a).0.reads
  reads_by k node a = ap (λ (y : NodeTable). y.reads) (of_node p t s k node a).2

  pub few_reads : (k : ℕ) (node : NodeInfo) → At t.nodes k node → length node.reads.items ≤ 64
  few_reads k node a =
      let x = of_node p t s k node a in
      let m = not_passed (λ i. read_size (meaning p i)) 64 x.0.reads (λ at h. node_faultless p f k x.0 x.1 at TooMany (many_read h)) in
      let l = length_joined (slots_meant p) (λ i. read_size (meaning p i)) x.0.reads (λ i z b. length_slots p z) in
      let e = ap (λ (l : List Slot). length l) (reads_by k node a) in
      omega arith

  pub reads_scalars : (n : ℕ) (node : NodeInfo) (k : ℕ) → At t.nodes n node → Has node.reads.items (ScalarSlot k) → k < length t.scalars
  reads_scalars n node k a h =
      let x = of_node p t s n node a in
      listed_below p t s f x.0.reads k (scalar_read p x.0.reads k (subst (λ (l : List Slot). Has l (ScalarSlot k)) (reads_by n node a) h))

  state_read : (n : ℕ) (node : NodeInfo) (k v : ℕ) → At t.nodes n node → Has node.reads.items (State k v)
      → (i : Ident) × (q : Plant) × (meaning p i ≡ Some (a_plant q)) × (k ≡ plant_place p i) × (v < length q.states)
  state_read n node k v a h =
      let x = of_node p t s n node a in
      let r = of_has_joined (slots_meant p) x.0.reads (State k v) (subst (λ (l : List Slot). Has l (State k v)) (reads_by n node a) h) in
      let q = of_state_slot p r.0 r.2.0 k v r.2.1 in
      (r.0, q.0, q.1, q.2, q.3)

  pub reads_are : (n : ℕ) (node : NodeInfo) (k v : ℕ) → At t.nodes n node → Has node.reads.items (State k v) → (other : PlantInfo) × At t.plants k other
  reads_are n node k v a h =
      let r = state_read n node k v a h in
      let y = plant_meant p t s f r.0 r.1 r.2 in
      (y.0, subst (λ m. At t.plants m y.0) (sym r.3) y.1)

  pub reads_states : (n : ℕ) (node : NodeInfo) (k v : ℕ) → At t.nodes n node → Has node.reads.items (State k v) → v < width_of t.plants k
  reads_states n node k v a h =
      let r = state_read n node k v a h in
      subst (λ w. v < w) (sym (ap (width_of t.plants) r.3 ∙ width_meant p t s f r.0 r.1 r.2)) r.4

  -- what it writes
  writes_by : (k : ℕ) (node : NodeInfo) (a : At t.nodes k node) → node.writes.items ≡ flat_map (scalars_meant p) (of_node p t s k node a).0.writes
  writes_by k node a = ap (λ (y : NodeTable). y.writes) (of_node p t s k node a).2

  written : (n : ℕ) (node : NodeInfo) (k : ℕ) (a : At t.nodes n node) → Has node.writes.items k
      → Has (flat_map (scalars_meant p) (of_node p t s n node a).0.writes) k
  written n node k a h = subst (λ (l : List ℕ). Has l k) (writes_by n node a) h

  pub few_writes : (k : ℕ) (node : NodeInfo) → At t.nodes k node → length node.writes.items ≤ 8
  few_writes k node a =
      let x = of_node p t s k node a in
      subst (λ (l : List ℕ). length l ≤ 8) (sym (writes_by k node a))
      (few_listed p 8 x.0.writes (λ at h. node_faultless p f k x.0 x.1 at TooMany (many_written h)))

  pub writes_once : (n : ℕ) (node : NodeInfo) (i j k : ℕ) → At t.nodes n node → At node.writes.items i k → At node.writes.items j k → i ≡ j
  writes_once n node i j k a u v =
      let x = of_node p t s n node a in
      let e = writes_by n node a in
      listed_once p x.0.writes (λ at h. node_faultless p f n x.0 x.1 at Twice (written_twice h)) i j k (subst (λ (l : List ℕ). At l i k) e u)
      (subst (λ (l : List ℕ). At l j k) e v)

  pub writes_inside : (n : ℕ) (node : NodeInfo) (k : ℕ) → At t.nodes n node → Has node.writes.items k → k < length t.scalars
  writes_inside n node k a h = listed_below p t s f (of_node p t s n node a).0.writes k (written n node k a h)

  pub whole_writes : (n : ℕ) (node : NodeInfo) (j k : ℕ) (u v : ScalarInfo) → At t.nodes n node → Has node.writes.items j → At t.scalars j u → At t.scalars k v
      → u.topic ≡ v.topic → Has node.writes.items k
  whole_writes n node j k u v a h x y e =
      subst (λ (l : List ℕ). Has l k) (sym (writes_by n node a)) (listed_whole p t s f (of_node p t s n node a).0.writes j k u v (written n node j a h) x y e)

  pub writes_outside : (n : ℕ) (node : NodeInfo) (j i : ℕ) (info : TopicInfo) → At t.nodes n node → At t.topics j info → info.outside ≡ true → i < info.count
      → Has node.writes.items (info.first + i) → ⊥
  writes_outside n node j i info a b o l h =
      let x = of_node p t s n node a in
      let w = of_listed p x.0.writes (info.first + i) (written n node (info.first + i) a h) in
      let u = of_topic p t s j info b in
      let c : i < scalar_count u.0 = subst (λ m. i < m) (sym (ap (λ (y : TopicInfo). y.count) u.2)) l in
      let g : first_scalar p j + i ≡ info.first + i = ap (λ m. m + i) (sym (first_is p t s f j u.0 u.1) ∙ ap (λ (y : TopicInfo). y.first) u.2) in
      let d = topic_at p w.name w.topic w.means in
      let e : topic_place p w.name ≡ j = same_topic p (topic_place p w.name) j w.nth i w.topic u.0 d u.1 w.below c (sym w.place ∙ sym g) in
      let q : w.topic ≡ u.0 = at_same (topics p) j w.topic u.0 (subst (λ m. At (topics p) m w.topic) e d) u.1 in
      let r : is_environment (meaning p w.name) ≡ true = ap is_environment w.means ∙ ap (λ (y : Topic). y.outside) q ∙ ap (λ (y : TopicInfo). y.outside) u.2
      ∙ o in
      node_faultless p f n x.0 x.1 w.name.at KindDiffers (written_outside w.listed r)

  pub not_read : (n : ℕ) (node : NodeInfo) (k : ℕ) → At t.nodes n node → Has node.reads.items (ScalarSlot k) → Has node.writes.items k → ⊥
  not_read n node k a g h =
      let x = of_node p t s n node a in
      let w = of_listed p x.0.writes k (written n node k a h) in
      let r = of_listed p x.0.reads k (scalar_read p x.0.reads k (subst (λ (l : List Slot). Has l (ScalarSlot k)) (reads_by n node a) g)) in
      let e = one_name p x.0.writes x.0.reads k w r in
      let among : is_among w.name x.0.reads ≡ true = any_at (are_same w.name) x.0.reads r.listed.0 r.name r.listed.1 (name_same w.name r.name e.1) in
      node_faultless p f n x.0 x.1 w.name.at ReadsAndWrites (written_read w.listed (ap is_topic w.means) among)

  -- its locals
  pub locals_by : (k : ℕ) (node : NodeInfo) (a : At t.nodes k node) → node.locals.items ≡ map local_info (of_node p t s k node a).0.locals
  locals_by k node a = ap (λ (y : NodeTable). y.locals) (of_node p t s k node a).2

  pub few_locals : (k : ℕ) (node : NodeInfo) → At t.nodes k node → length node.locals.items ≤ 16
  few_locals k node a =
      let x = of_node p t s k node a in
      let r = few 16 (λ (l : Local). l.name) x.0.locals (λ at h. node_faultless p f k x.0 x.1 at TooMany (many_locals h)) in
      let e : length node.locals.items ≡ length x.0.locals = ap (λ (y : NodeTable). length y.locals) x.2 ∙ length-map x.0.locals local_info in
      omega arith

  local_is : (k : ℕ) (node : NodeInfo) (a : At t.nodes k node) (i : ℕ) (info : LocalInfo) → At node.locals.items i info
      → (l : Local) × (local_info l ≡ info) × IsTyping false l.scalar × (lowest l.scalar ≤ℤ const_number l.init) × (const_number l.init ≤ℤ greatest l.scalar)
  local_is k node a i info b =
      let x = of_node p t s k node a in
      let m = at_mapped local_info x.0.locals i info (subst (λ (l : List LocalInfo). At l i info) (locals_by k node a) b) in
      let r = start_is false m.0.scalar m.0.init (λ at kind h. node_faultless p f k x.0 x.1 at kind (local_scalar (i, m.1) h))
      (λ at kind h. node_faultless p f k x.0 x.1 at kind (local_start (i, m.1) h)) in
      (m.0, m.2, scalar_is false m.0.scalar (λ at kind h. node_faultless p f k x.0 x.1 at kind (local_scalar (i, m.1) h)), r.0, r.1)

  pub locals_meet : (k : ℕ) (node : NodeInfo) → At t.nodes k node → (i : ℕ) (info : LocalInfo) → At node.locals.items i info → MeetsLocalRules info
  locals_meet k node a i info b =
      let x = local_is k node a i info b in
      subst MeetsLocalRules x.1 (record { scale = x.2.scale; range = x.2.ordered; truth = x.2.truth })

  pub local_inits : (k : ℕ) (node : NodeInfo) → At t.nodes k node → IsWithin (local_ranges node) (map (λ (l : LocalInfo). l.init) node.locals.items)
  local_inits k node a =
      within_each (λ (i : LocalInfo). i.lo) (λ (i : LocalInfo). i.hi) (λ (i : LocalInfo). i.init) node.locals.items
      (λ i info b. (let x = local_is k node a i info b in subst (λ (z : LocalInfo). (z.lo ≤ℤ z.init) × (z.init ≤ℤ z.hi)) x.1 (x.3, x.4)))

  -- an external node has none
  pub external_locals : IsFormed p → (k : ℕ) (node : NodeInfo) → At t.nodes k node → node.body ≡ None → node.locals.items ≡ []
  external_locals fo k node a e =
      let x = of_node p t s k node a in
      let n = no_body (λ (v : Vec Act). deeds_view v.items) (deeds_of (node_scope p x.0)) node.body x.0.body (ap (λ (y : NodeTable). y.body) x.2) e in
      no_locals local_info node.locals.items x.0.locals (locals_by k node a) ((node_formed p fo k x.0 x.1).external n)
