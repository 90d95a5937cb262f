-- The declarations of a program in which no rule fails: their places, and what is known of each of them.
use Rattle.std.proofs.Common.{◌≡◌, ◌∙◌, ℕ, ◌+◌, ◌<◌, List, [], map, length, refl, ap, Option, Some, None, true}
use Rattle.std.proofs.lemmas.List.{length-map}
use Rattle.std.proofs.lemmas.Option.{same_Some, none-some}
use native.Mathlib.Omega.{arith}
use Rattle.sot_lists.specs.Places.{At, Has}
use Rattle.sot_text.specs.declared.token.Span.{Span}
use Rattle.sot_syntax_tree.specs.declared.tree.Ident.{Ident}
use Rattle.sot_lang.specs.declared.tables.Slot.{Slot}
use Rattle.sot_lang.specs.declared.tables.Slot.TheVariants.{Scalar as ScalarSlot, State}
use Rattle.sot_syntax_tree.specs.Trees.{Topic, Plant, Node, Module, Declaration, a_topic, a_plant, a_node, a_module, Program}
use Rattle.sot_rules.specs.declared.fault.TypeKind.{TypeKind}
use Rattle.sot_rules.specs.declared.fault.TypeKind.TheVariants.{Twice}
use Rattle.sot_rules.specs.Fails.{TopicFails, PlantFails, NodeFails, ModuleFails, declared_twice, declaration, in_topic, in_plant, in_node, in_module}
use Rattle.sot_rules.specs.First.{IsFaultless}
use Rattle.sot_syntax_tree.specs.Formed.{IsFormed, IsDeclaration, IsTopic, IsPlant, IsNode, IsModule}
use Rattle.sot_rules.specs.Names.{declared_name, meaning, is_topic, is_plant, is_node}
use Rattle.sot_rules.specs.Lists.{are_same}
use Rattle.sot_rules.specs.Tests.{topic_size, read_size}
use Rattle.sot_typing.specs.Resolved.{a_topic_of, a_plant_of, a_node_of, a_module_of, topics, plants, nodes, modules, topic_place, plant_place, node_place}
use Rattle.sot_typing.specs.Resolved.{scalar_count, first_scalar, counted_from, scalars_meant, slots_meant}
use Rattle.sot_typing.proofs.Lists.{at_mapped, each_at, of_kept}
use Rattle.sot_typing.proofs.Joined.{length_counted, of_counted}
use Rattle.sot_typing.proofs.Once.{AreOnce, once_map, same_name}
use Rattle.sot_typing.proofs.Declared.{of_find, place_found, own_found, own_place}

-- a declaration of a sort
pub topic_is : (d : Declaration) (t : Topic) → a_topic_of d ≡ Some t → d ≡ a_topic t
topic_is (a_topic u) t e = ap a_topic (same_Some u t e)
topic_is (a_plant q) t e = absurd (none-some t e)
topic_is (a_node n) t e = absurd (none-some t e)
topic_is (a_module m) t e = absurd (none-some t e)

pub plant_is : (d : Declaration) (q : Plant) → a_plant_of d ≡ Some q → d ≡ a_plant q
plant_is (a_topic t) q e = absurd (none-some q e)
plant_is (a_plant r) q e = ap a_plant (same_Some r q e)
plant_is (a_node n) q e = absurd (none-some q e)
plant_is (a_module m) q e = absurd (none-some q e)

pub node_is : (d : Declaration) (n : Node) → a_node_of d ≡ Some n → d ≡ a_node n
node_is (a_topic t) n e = absurd (none-some n e)
node_is (a_plant q) n e = absurd (none-some n e)
node_is (a_node m) n e = ap a_node (same_Some m n e)
node_is (a_module m) n e = absurd (none-some n e)

pub module_is : (d : Declaration) (m : Module) → a_module_of d ≡ Some m → d ≡ a_module m
module_is (a_topic t) m e = absurd (none-some m e)
module_is (a_plant q) m e = absurd (none-some m e)
module_is (a_node n) m e = absurd (none-some m e)
module_is (a_module l) m e = ap a_module (same_Some l m e)

pub topic_link : (d : Declaration) (t : Topic) → a_topic_of d ≡ Some t → declared_name d ≡ t.name
topic_link d t e = ap declared_name (topic_is d t e)

pub plant_link : (d : Declaration) (q : Plant) → a_plant_of d ≡ Some q → declared_name d ≡ q.name
plant_link d q e = ap declared_name (plant_is d q e)

pub node_link : (d : Declaration) (n : Node) → a_node_of d ≡ Some n → declared_name d ≡ n.name
node_link d n e = ap declared_name (node_is d n e)

pub module_link : (d : Declaration) (m : Module) → a_module_of d ≡ Some m → declared_name d ≡ m.name
module_link d m e = ap declared_name (module_is d m e)

-- what a name means has its place among those of its sort
pub topic_at : (p : Program) (i : Ident) (t : Topic) → meaning p i ≡ Some (a_topic t) → At (topics p) (topic_place p i) t
topic_at p i t e = place_found a_topic_of declared_name (λ (t : Topic). t.name) topic_link i p.decls (a_topic t) t e refl

pub plant_at : (p : Program) (i : Ident) (q : Plant) → meaning p i ≡ Some (a_plant q) → At (plants p) (plant_place p i) q
plant_at p i q e = place_found a_plant_of declared_name (λ (q : Plant). q.name) plant_link i p.decls (a_plant q) q e refl

pub node_at : (p : Program) (i : Ident) (n : Node) → meaning p i ≡ Some (a_node n) → At (nodes p) (node_place p i) n
node_at p i n e = place_found a_node_of declared_name (λ (n : Node). n.name) node_link i p.decls (a_node n) n e refl

pub meaning_name : (p : Program) (i : Ident) (d : Declaration) → meaning p i ≡ Some d → i.name ≡ (declared_name d).name
meaning_name p i d e = (let r = of_find (λ d. are_same i (declared_name d)) p.decls d e in same_name i (declared_name d) r.2)

-- each stands among the declarations
pub topic_declared : (p : Program) (k : ℕ) (t : Topic) → At (topics p) k t → Has p.decls (a_topic t)
topic_declared p k t a = (let r = of_kept a_topic_of p.decls k t a in (r.0, r.2 ∙ ap Some (topic_is r.1 t r.3)))

pub plant_declared : (p : Program) (k : ℕ) (q : Plant) → At (plants p) k q → Has p.decls (a_plant q)
plant_declared p k q a = (let r = of_kept a_plant_of p.decls k q a in (r.0, r.2 ∙ ap Some (plant_is r.1 q r.3)))

pub node_declared : (p : Program) (k : ℕ) (n : Node) → At (nodes p) k n → Has p.decls (a_node n)
node_declared p k n a = (let r = of_kept a_node_of p.decls k n a in (r.0, r.2 ∙ ap Some (node_is r.1 n r.3)))

pub module_declared : (p : Program) (k : ℕ) (m : Module) → At (modules p) k m → Has p.decls (a_module m)
module_declared p k m a = (let r = of_kept a_module_of p.decls k m a in (r.0, r.2 ∙ ap Some (module_is r.1 m r.3)))

-- names stand once, and lead to their own declarations
pub declared_once : (p : Program) → IsFaultless p → AreOnce declared_name p.decls
declared_once p f = once_map declared_name p.decls (λ at r. f at Twice (declared_twice r))

pub topic_own : (p : Program) → IsFaultless p → (k : ℕ) (t : Topic) → At (topics p) k t → (meaning p t.name ≡ Some (a_topic t)) × (topic_place p t.name ≡ k)
topic_own p f k t a =
    let r = own_found a_topic_of declared_name (λ (t : Topic). t.name) topic_link p.decls (declared_once p f) k t a in
    (r.1 ∙ ap Some (topic_is r.0 t r.2), own_place a_topic_of declared_name (λ (t : Topic). t.name) topic_link p.decls (declared_once p f) k t a)

pub plant_own : (p : Program) → IsFaultless p → (k : ℕ) (q : Plant) → At (plants p) k q → (meaning p q.name ≡ Some (a_plant q)) × (plant_place p q.name ≡ k)
plant_own p f k q a =
    let r = own_found a_plant_of declared_name (λ (q : Plant). q.name) plant_link p.decls (declared_once p f) k q a in
    (r.1 ∙ ap Some (plant_is r.0 q r.2), own_place a_plant_of declared_name (λ (q : Plant). q.name) plant_link p.decls (declared_once p f) k q a)

-- no rule fails in any of them
pub topic_faultless : (p : Program) → IsFaultless p → (k : ℕ) (t : Topic) → At (topics p) k t → (at : Span) (kind : TypeKind) → TopicFails t at kind → ⊥
topic_faultless p f k t a at kind h = f at kind (declaration (topic_declared p k t a) (in_topic h))

pub plant_faultless : (p : Program) → IsFaultless p → (k : ℕ) (q : Plant) → At (plants p) k q → (at : Span) (kind : TypeKind) → PlantFails p q at kind → ⊥
plant_faultless p f k q a at kind h = f at kind (declaration (plant_declared p k q a) (in_plant h))

pub node_faultless : (p : Program) → IsFaultless p → (k : ℕ) (n : Node) → At (nodes p) k n → (at : Span) (kind : TypeKind) → NodeFails p n at kind → ⊥
node_faultless p f k n a at kind h = f at kind (declaration (node_declared p k n a) (in_node h))

pub module_faultless : (p : Program) → IsFaultless p → (k : ℕ) (m : Module) → At (modules p) k m → (at : Span) (kind : TypeKind) → ModuleFails p m at kind → ⊥
module_faultless p f k m a at kind h = f at kind (declaration (module_declared p k m a) (in_module h))

-- each of them is in form
pub topic_formed : (p : Program) → IsFormed p → (k : ℕ) (t : Topic) → At (topics p) k t → IsTopic t
topic_formed p f k t a = (let r = topic_declared p k t a in each_at IsDeclaration p.decls r.0 (a_topic t) f r.1)

pub plant_formed : (p : Program) → IsFormed p → (k : ℕ) (q : Plant) → At (plants p) k q → IsPlant q
plant_formed p f k q a = (let r = plant_declared p k q a in each_at IsDeclaration p.decls r.0 (a_plant q) f r.1)

pub node_formed : (p : Program) → IsFormed p → (k : ℕ) (n : Node) → At (nodes p) k n → IsNode n
node_formed p f k n a = (let r = node_declared p k n a in each_at IsDeclaration p.decls r.0 (a_node n) f r.1)

pub module_formed : (p : Program) → IsFormed p → (k : ℕ) (m : Module) → At (modules p) k m → IsModule m
module_formed p f k m a = (let r = module_declared p k m a in each_at IsDeclaration p.decls r.0 (a_module m) f r.1)

-- what a name may mean
pub a_topic_meant : (o : Option Declaration) → is_topic o ≡ true → (t : Topic) × (o ≡ Some (a_topic t))
a_topic_meant None e = cc
a_topic_meant (Some (a_topic t)) e = (t, refl)
a_topic_meant (Some (a_plant q)) e = cc
a_topic_meant (Some (a_node n)) e = cc
a_topic_meant (Some (a_module m)) e = cc

pub a_plant_meant : (o : Option Declaration) → is_plant o ≡ true → (q : Plant) × (o ≡ Some (a_plant q))
a_plant_meant None e = cc
a_plant_meant (Some (a_topic t)) e = cc
a_plant_meant (Some (a_plant q)) e = (q, refl)
a_plant_meant (Some (a_node n)) e = cc
a_plant_meant (Some (a_module m)) e = cc

pub a_node_meant : (o : Option Declaration) → is_node o ≡ true → (n : Node) × (o ≡ Some (a_node n))
a_node_meant None e = cc
a_node_meant (Some (a_topic t)) e = cc
a_node_meant (Some (a_plant q)) e = cc
a_node_meant (Some (a_node n)) e = (n, refl)
a_node_meant (Some (a_module m)) e = cc

-- the scalars that a name stands for
abbrev pub scalars_in : Program → Ident → Option Declaration → List ℕ
scalars_in p i o = elim o as (λ x. List ℕ) [ Some (a_topic t) ↦ counted_from (first_scalar p (topic_place p i)) (scalar_count t) | _ ↦ [] ]

pub scalars_are : (p : Program) (i : Ident) (t : Topic) → meaning p i ≡ Some (a_topic t)
    → scalars_meant p i ≡ counted_from (first_scalar p (topic_place p i)) (scalar_count t)
scalars_are p i t e = ap (scalars_in p i) e

pub of_scalars : (p : Program) (i : Ident) (m k : ℕ) → At (scalars_meant p i) m k
    → (t : Topic) × (meaning p i ≡ Some (a_topic t)) × (m < scalar_count t) × (k ≡ first_scalar p (topic_place p i) + m)
of_scalars p i m k a = by (meaning p i) refl a
  where
    by : (o : Option Declaration) → meaning p i ≡ o → At (scalars_in p i o) m k
        → (t : Topic) × (meaning p i ≡ Some (a_topic t)) × (m < scalar_count t) × (k ≡ first_scalar p (topic_place p i) + m)
    by None e a = absurd (none-some k a)
    by (Some (a_topic t)) e a = (let r = of_counted (first_scalar p (topic_place p i)) (scalar_count t) m k a in (t, e, r.0, r.1))
    by (Some (a_plant q)) e a = absurd (none-some k a)
    by (Some (a_node n)) e a = absurd (none-some k a)
    by (Some (a_module l)) e a = absurd (none-some k a)

pub length_scalars : (p : Program) (i : Ident) → length (scalars_meant p i) ≡ topic_size (meaning p i)
length_scalars p i = by (meaning p i)
  where
    by : (o : Option Declaration) → length (scalars_in p i o) ≡ topic_size o
    by None = refl
    by (Some (a_topic t)) = length_counted (first_scalar p (topic_place p i)) (scalar_count t)
    by (Some (a_plant q)) = refl
    by (Some (a_node n)) = refl
    by (Some (a_module l)) = refl

-- the numbers that a node reads by a name
abbrev pub slots_in : Program → Ident → Option Declaration → List Slot
slots_in p i o =
    elim o as (λ x. List Slot) [
      | Some (a_topic t) ↦ map (λ k. ScalarSlot k) (scalars_meant p i)
      | Some (a_plant q) ↦ map (λ v. State (plant_place p i) v)
          (counted_from 0 (length q.states))
      | _ ↦ []
    ]

pub slots_of_topic : (p : Program) (i : Ident) (t : Topic) → meaning p i ≡ Some (a_topic t) → slots_meant p i ≡ map (λ k. ScalarSlot k) (scalars_meant p i)
slots_of_topic p i t e = ap (slots_in p i) e

pub slots_of_plant : (p : Program) (i : Ident) (q : Plant) → meaning p i ≡ Some (a_plant q)
    → slots_meant p i ≡ map (λ v. State (plant_place p i) v) (counted_from 0 (length q.states))
slots_of_plant p i q e = ap (slots_in p i) e

pub of_scalar_slot : (p : Program) (i : Ident) (m k : ℕ) → At (slots_meant p i) m (ScalarSlot k) → At (scalars_meant p i) m k
of_scalar_slot p i m k a = by (meaning p i) refl a
  where
    by : (o : Option Declaration) → meaning p i ≡ o → At (slots_in p i o) m (ScalarSlot k) → At (scalars_meant p i) m k
    by None e a = absurd (none-some (ScalarSlot k) a)
    by (Some (a_topic t)) e a = (let r = at_mapped (λ k. ScalarSlot k) (scalars_meant p i) m (ScalarSlot k) a in r.1 ∙ ap Some (let q = r.2 in cc))
    by (Some (a_plant q)) e a = (let r = at_mapped (λ v. State (plant_place p i) v) (counted_from 0 (length q.states)) m (ScalarSlot k) a in let s = r.2 in cc)
    by (Some (a_node n)) e a = absurd (none-some (ScalarSlot k) a)
    by (Some (a_module l)) e a = absurd (none-some (ScalarSlot k) a)

pub of_state_slot : (p : Program) (i : Ident) (m k v : ℕ) → At (slots_meant p i) m (State k v)
    → (q : Plant) × (meaning p i ≡ Some (a_plant q)) × (k ≡ plant_place p i) × (v < length q.states)
of_state_slot p i m k v a = by (meaning p i) refl a
  where
    by : (o : Option Declaration) → meaning p i ≡ o → At (slots_in p i o) m (State k v)
        → (q : Plant) × (meaning p i ≡ Some (a_plant q)) × (k ≡ plant_place p i) × (v < length q.states)
    by None e a = absurd (none-some (State k v) a)
    by (Some (a_topic t)) e a = (let r = at_mapped (λ k. ScalarSlot k) (scalars_meant p i) m (State k v) a in let s = r.2 in cc)
    by (Some (a_plant q)) e a =
        let r = at_mapped (λ v. State (plant_place p i) v) (counted_from 0 (length q.states)) m (State k v) a in
        let s = r.2 in
        let c = of_counted 0 (length q.states) m r.0 r.1 in
        let w : r.0 ≡ v = cc in
        let x = c.0 in
        let y = c.1 in
        (q, e, cc, omega arith)
    by (Some (a_node n)) e a = absurd (none-some (State k v) a)
    by (Some (a_module l)) e a = absurd (none-some (State k v) a)

pub length_slots : (p : Program) (i : Ident) → length (slots_meant p i) ≡ read_size (meaning p i)
length_slots p i = by (meaning p i) (length_scalars p i)
  where
    by : (o : Option Declaration) → length (scalars_meant p i) ≡ topic_size o → length (slots_in p i o) ≡ read_size o
    by None h = refl
    by (Some (a_topic t)) h = length-map (scalars_meant p i) (λ k. ScalarSlot k) ∙ h
    by (Some (a_plant q)) h = length-map (counted_from 0 (length q.states)) (λ v. State (plant_place p i) v) ∙ length_counted 0 (length q.states)
    by (Some (a_node n)) h = refl
    by (Some (a_module l)) h = refl
