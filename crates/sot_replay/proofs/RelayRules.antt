-- The relay's tables meet the rules of tables, and its names are words; so the laws speak of its flight.
use Rattle.std.proofs.Common.{◌≡◌, ℕ, suc, ◌<◌, ◌≤◌, ◌+◌, true, List, [], ◌∷◌, refl, sym, ap, ◌∙◌, subst, arith}
use Rattle.std.specs.Prelude.{Some, slice_index_or, map, ◌==◌, if◌then◌else◌}
use Rattle.std.specs.Global.{Global}
use Rattle.std.proofs.lemmas.Int.{ints}
use Rattle.std.proofs.lemmas.Option.{same_Some, none-some}
use Rattle.std.proofs.lemmas.Bool.{false≢true}
use Rattle.sot_lists.specs.Places.{At, Has}
use Rattle.sot_lists.proofs.ShortLists.{at_more, at_one, at_two}
use Rattle.sot_box.specs.Boxes.{IsWithin}
use Rattle.sot_lang.specs.declared.tables.TopicInfo.{TopicInfo}
use Rattle.sot_lang.specs.declared.tables.ScalarInfo.{ScalarInfo}
use Rattle.sot_lang.specs.declared.tables.Slot.{Slot}
use Rattle.sot_lang.specs.declared.tables.Slot.TheVariants.{Scalar, State}
use Rattle.sot_lang.specs.Ranges.{local_ranges}
use Rattle.sot_lang.specs.OwnerNames.{node_truths}
use Rattle.sot_lang.specs.ActRules.{ActsFit}
use Rattle.sot_lang.specs.TableRules.{IsTyped, AreDistinct, MeetsTableRules, MeetsScalarRules, MeetsNodeRules}
use Rattle.sot_world.specs.Examples.{relay, copy, copy_acts, e_topic, m_topic, digit}
use Rattle.sot_trace.specs.Words.{IsWord, AreWords}

number_of : Slot → ℕ
number_of (Scalar k) = k
number_of (State k v) = 0

is_state : Slot → ℕ
is_state (Scalar k) = 0
is_state (State k v) = 1

-- the names, by their first letters
place_of : List ℕ → ℕ
place_of name =
    let c = slice_index_or name 0 0 in
    if c == 101 then 0 else (if c == 109 then 1 else 2)

is_at : (i : ℕ) (name : List ℕ) → At ((101 ∷ []) ∷ (109 ∷ []) ∷ (99 ∷ 111 ∷ 112 ∷ 121 ∷ []) ∷ []) i name → i ≡ place_of name
unfolding place_of
is_at = at_more (λ i x. i ≡ place_of x) (101 ∷ []) ((109 ∷ []) ∷ (99 ∷ 111 ∷ 112 ∷ 121 ∷ []) ∷ []) refl
    (at_two (λ i x. suc i ≡ place_of x) (109 ∷ []) (99 ∷ 111 ∷ 112 ∷ 121 ∷ []) refl refl)

names_apart : AreDistinct ((101 ∷ []) ∷ (109 ∷ []) ∷ (99 ∷ 111 ∷ 112 ∷ 121 ∷ []) ∷ [])
names_apart i j name a b = is_at i name a ∙ sym (is_at j name b)

module _ (g : Global) where
  reads : (k : ℕ) → Has (copy g).reads.items (Scalar k) → 0 ≡ k
  unfolding number_of
  reads k (i, at) = ap number_of (at_one (λ n x. Scalar 0 ≡ x) (Scalar 0) refl i (Scalar k) at)

  no_state : (k v : ℕ) → Has (copy g).reads.items (State k v) → ⊥
  unfolding is_state
  no_state k v (i, at) = (let e : ◌≡◌ {A = ℕ} 0 1 = ap is_state (at_one (λ n x. Scalar 0 ≡ x) (Scalar 0) refl i (State k v) at) in omega (arith, e))

  writes : (k : ℕ) → Has (copy g).writes.items k → 1 ≡ k
  writes k (i, at) = at_one (λ n x. 1 ≡ x) 1 refl i k at

  topic_is : (k : ℕ) (info : ScalarInfo) → At (relay g).scalars k info → info.topic ≡ k
  topic_is = at_two (λ k info. info.topic ≡ k) (digit g 0) (digit g 1) refl refl

  typed : IsTyped (relay g)
  typed = record {
    node_times = at_one (λ n node. node.offset < node.period) (copy g) (omega arith);
    module_times = λ m a at. absurd (none-some a at);
    ac_is = λ m a at. absurd (none-some a at);
    sc_is = λ m a at. absurd (none-some a at);
    plant_is = λ m a at. absurd (none-some a at);
    apart = λ m a at. absurd (none-some a at);
    sees_are = λ k plant n at. absurd (none-some plant at);
    named = λ k plant at. absurd (none-some plant at);
    reads_are = λ n node k v at has. absurd (at_one (λ n node. Has node.reads.items (State k v) → ⊥) (copy g) (no_state k v) n node at has);
    inits = (omega (arith, ints), omega (arith, ints), (omega (arith, ints), omega (arith, ints), tt));
    local_inits = at_one (λ n node. IsWithin (local_ranges node) (map (λ l. l.init) node.locals.items)) (copy g) tt;
    once = λ n node i j k at. at_one (λ n node. At node.writes.items i k → At node.writes.items j k → i ≡ j) (copy g)
        (λ a b. at_one (λ p x. p ≡ 0) 1 refl i k a ∙ sym (at_one (λ p x. p ≡ 0) 1 refl j k b)) n node at;
    inside = λ n node k at. at_one (λ n node. Has node.writes.items k → k < 2) (copy g) (λ a. let e = writes k a in omega (arith, e)) n node at;
    outside =
        λ n node t i info at at_t e less has. at_two (λ t info. info.outside ≡ true → i < info.count → Has (copy g).writes.items (info.first + i) → ⊥)
        (e_topic g) (m_topic g)
        (λ e less a. let one = writes (0 + i) a in omega (arith, less, one)) (λ e less a. false≢true e) t info at_t e less
        (at_one (λ n node. Has node.writes.items (info.first + i) → Has (copy g).writes.items (info.first + i)) (copy g) (λ a. a) n node at has);
    scalar_topic =
        at_two (λ k info. (topic : TopicInfo) × At (relay g).topics info.topic topic × (topic.first ≤ k) × (k < topic.first + topic.count)) (digit g 0)
        (digit g 1)
        (e_topic g, refl, omega arith, omega arith) (m_topic g, refl, omega arith, omega arith);
    topic_scalar =
        λ t k topic at. at_two (λ t topic. topic.first ≤ k → k < topic.first + topic.count
        → (info : ScalarInfo) × At (relay g).scalars k info × (info.topic ≡ t)) (e_topic g) (m_topic g)
        (λ a b. let e : 0 ≡ k = omega (arith, a, b) in subst (λ k. (info : ScalarInfo) × At (relay g).scalars k info × (info.topic ≡ 0)) e
        (digit g 0, refl, refl))
        (λ a b. let e : 1 ≡ k = omega (arith, a, b) in subst (λ k. (info : ScalarInfo) × At (relay g).scalars k info × (info.topic ≡ 1)) e
        (digit g 1, refl, refl))
        t topic at;
    whole_writes =
        λ n node j k a b at. at_one (λ n node. Has node.writes.items j → At (relay g).scalars j a → At (relay g).scalars k b → a.topic ≡ b.topic
        → Has node.writes.items k) (copy g)
        (λ w x y e. subst (λ k. Has (copy g).writes.items k) (sym (topic_is j a x) ∙ e ∙ topic_is k b y) w) n node at;
    whole_inputs = λ i plant j k a b at. absurd (none-some plant at);
    inputs_are = λ i plant k at. absurd (none-some plant at);
  }

  number_e : MeetsScalarRules (relay g) (digit g 0)
  number_e = record {
    scale = omega arith;
    range = (omega (arith, ints), omega (arith, ints));
    truth = λ e. absurd (false≢true e);
    plain = λ topic at e. ap (λ t. t.count) (sym (same_Some (e_topic g) topic at));
  }

  number_m : MeetsScalarRules (relay g) (digit g 1)
  number_m = record {
    scale = omega arith;
    range = (omega (arith, ints), omega (arith, ints));
    truth = λ e. absurd (false≢true e);
    plain = λ topic at e. ap (λ t. t.count) (sym (same_Some (m_topic g) topic at));
  }

  body_fits : ActsFit (node_truths (relay g) (copy g)) 0 1 (copy_acts g)
  body_fits = ((omega arith, omega arith), tt)

  node : MeetsNodeRules (relay g) (copy g)
  node = record {
    period = omega arith;
    reads = omega arith;
    reads_scalars = λ k a. let e = reads k a in omega (arith, e);
    reads_states = λ k v a. absurd (no_state k v a);
    not_read = λ k a b. let e = reads k a in let f = writes k b in omega (arith, e, f);
    writes = omega arith;
    locals = omega arith;
    local_ranges = λ i info at. absurd (none-some info at);
    external = λ e. absurd (none-some _ (sym e));
    body = λ acts (v, is, items). subst (ActsFit (node_truths (relay g) (copy g)) 0 1) (sym (sym items ∙ ap (λ x. x.items) (sym (same_Some _ v is)))) body_fits;
  }

  pub rules : MeetsTableRules (relay g)
  rules = record {
    typed = typed;
    topic_count = omega arith;
    plant_count = omega arith;
    node_count = omega arith;
    module_count = omega arith;
    topics = at_two (λ t topic. (1 ≤ topic.count) × (topic.count ≤ 8)) (e_topic g) (m_topic g) (omega arith, omega arith) (omega arith, omega arith);
    scalars = at_two (λ k info. MeetsScalarRules (relay g) info) (digit g 0) (digit g 1) number_e number_m;
    plants = λ k plant at. absurd (none-some plant at);
    nodes = at_one (λ n node. MeetsNodeRules (relay g) node) (copy g) node;
    modules = λ m info at. absurd (none-some info at);
    names_once = names_apart;
    fields_once = λ i j a b at_i at_j s f. sym (topic_is i a at_i) ∙ s ∙ topic_is j b at_j;
  }

  pub words : AreWords (relay g)
  words = record {
    topics = at_two (λ t x. IsWord x.name) (e_topic g) (m_topic g) refl refl;
    fields =
        λ k info field at is. absurd (at_two (λ n x. x.field ≡ Some field → ⊥) (digit g 0) (digit g 1) (λ e. none-some field e) (λ e. none-some field e) k info
        at is);
    plants = λ k plant at. absurd (none-some plant at);
    nodes = at_one (λ k x. IsWord x.name) (copy g) refl;
    modules = λ m info at. absurd (none-some info at);
  }
