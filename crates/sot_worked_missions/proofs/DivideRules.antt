-- The tables of the node that divides meet the rules of tables.
use Rattle.std.proofs.Common.{◌≡◌, ℕ, suc, ◌<◌, ◌≤◌, ◌+◌, true, false, Bool, List, [], ◌∷◌, refl, sym, ap, ◌∙◌, subst, arith, length, pos}
use Rattle.std.specs.Prelude.{slice_index_or, map, ◌++◌, ◌==◌, if◌then◌else◌}
use Rattle.std.proofs.lemmas.Int.{ints}
use Rattle.std.proofs.lemmas.Option.{same_Some, none-some}
use Rattle.std.proofs.lemmas.Bool.{false≢true}
use Rattle.sot_lists.specs.Places.{At, Has}
use Rattle.sot_box.specs.Boxes.{IsWithin}
use Rattle.sot_lang.specs.declared.act.Act.{Act}
use Rattle.sot_syntax_tree.specs.declared.operator.Func.TheVariants.{Max}
use Rattle.sot_lang.specs.declared.term.Term.{Term}
use Rattle.sot_lang.specs.declared.tables.TopicInfo.{TopicInfo}
use Rattle.sot_lang.specs.declared.tables.ScalarInfo.{ScalarInfo}
use Rattle.sot_lang.specs.declared.tables.NodeInfo.{NodeInfo}
use Rattle.sot_lang.specs.declared.tables.LocalInfo.{LocalInfo}
use Rattle.sot_lang.specs.declared.tables.Slot.{Slot}
use Rattle.sot_lang.specs.declared.tables.Slot.TheVariants.{Scalar, State}
use Rattle.sot_lang.specs.Tables.{Tables}
use Rattle.sot_lang.specs.Ranges.{local_ranges}
use Rattle.sot_lang.specs.OwnerNames.{node_truths, reads_truth}
use Rattle.sot_lang.specs.TermRules.{TermFits, TermsFit}
use Rattle.sot_lang.specs.ActRules.{ActsFit}
use Rattle.sot_lang.specs.TableRules.{IsTyped, AreDistinct, MeetsTableRules, MeetsScalarRules, MeetsNodeRules}
use Rattle.sot_lists.proofs.ShortLists.{at_more, at_one, at_two}
use Rattle.sot_lang.proofs.Rows.{Call-TermFits}
use Rattle.sot_lang.proofs.Owners.{one_body}
use Rattle.sot_worked_missions.specs.Parts.{place, one_topic, whole_number}
use Rattle.sot_worked_missions.specs.Divide.{IsAtLeastOne, IsCalc, IsDivision, IsDivide}
use Rattle.sot_worked_missions.proofs.Short.{only, only_place, nothing}

number_of : Slot → ℕ
number_of (Scalar k) = k
number_of (State k v) = 0

is_state : Slot → Bool
is_state (Scalar k) = false
is_state (State k v) = true

-- the names, by their first letters
place_of : List ℕ → ℕ
place_of name =
    let c = slice_index_or name 0 0 in
    if c == 110 then 0 else (if c == 107 then 1 else 2)

is_at : (i : ℕ) (name : List ℕ) → At ((110 ∷ []) ∷ (107 ∷ []) ∷ (99 ∷ 97 ∷ 108 ∷ 99 ∷ []) ∷ []) i name → i ≡ place_of name
unfolding place_of
is_at = at_more (λ i x. i ≡ place_of x) (110 ∷ []) ((107 ∷ []) ∷ (99 ∷ 97 ∷ 108 ∷ 99 ∷ []) ∷ []) refl
    (at_two (λ i x. suc i ≡ place_of x) (107 ∷ []) (99 ∷ 97 ∷ 108 ∷ 99 ∷ []) refl refl)

names_apart : AreDistinct ((110 ∷ []) ∷ (107 ∷ []) ∷ (99 ∷ 97 ∷ 108 ∷ 99 ∷ []) ∷ [])
names_apart i j name a b = is_at i name a ∙ sym (is_at j name b)

-- max(n, 1) is in form where one number is read
pub at_least_one_fits : (truths : List Bool) (t : Term) → truths ≡ false ∷ [] → IsAtLeastOne t → TermFits truths t
at_least_one_fits truths t one h =
    let parts : TermsFit truths h.0.items = subst (TermsFit truths) (sym h.1) (omega (arith, ap length one), (refl, tt)) in
    subst (TermFits truths) (sym h.2) (Call-TermFits Max h.0 (place 7 22) truths parts (ap length h.1))

-- the division is in form where its divisor is, one number is read and one scalar written
division_fits : (D : Term → Type 0) → ((truths : List Bool) (t : Term) → truths ≡ false ∷ [] → D t → TermFits truths t)
    → (truths : List Bool) (locals writes : ℕ) (acts : List Act) → truths ≡ false ∷ [] → writes ≡ 1 → IsDivision D acts → ActsFit truths locals writes acts
division_fits D fits truths locals writes acts one some h =
    let quotient : TermFits truths h.0 = subst (TermFits truths) (sym h.1.2.2) (tt, refl, fits truths h.1.0 one h.1.1) in
    subst (ActsFit truths locals writes) (sym h.2) ((omega (arith, some), quotient), tt)

abbrev topic_n : TopicInfo
topic_n = one_topic (110 ∷ []) 0

abbrev topic_k : TopicInfo
topic_k = one_topic (107 ∷ []) 1

abbrev scalar_n : ScalarInfo
scalar_n = whole_number 0 (pos 0) (pos 5)

abbrev scalar_k : ScalarInfo
scalar_k = whole_number 1 (pos 0) (pos 10)

module _ (D : Term → Type 0) (fits : (truths : List Bool) (t : Term) → truths ≡ false ∷ [] → D t → TermFits truths t) (calc : NodeInfo) (h : IsCalc D calc)
  where
    abbrev made : Tables
    made = record { topics = topic_n ∷ topic_k ∷ []; scalars = scalar_n ∷ scalar_k ∷ []; plants = []; nodes = calc ∷ []; modules = [] }

    reads : (k : ℕ) → Has calc.reads.items (Scalar k) → 0 ≡ k
    unfolding number_of
    reads k a = ap number_of (only (Scalar 0) calc.reads.items h.reads (Scalar k) a)

    no_state : (k v : ℕ) → Has calc.reads.items (State k v) → ⊥
    unfolding is_state
    no_state k v a = false≢true (ap is_state (only (Scalar 0) calc.reads.items h.reads (State k v) a))

    writes : (k : ℕ) → Has calc.writes.items k → 1 ≡ k
    writes = only 1 calc.writes.items h.writes

    no_local : (i : ℕ) (info : LocalInfo) → At calc.locals.items i info → ⊥
    no_local = nothing calc.locals.items h.locals

    topic_is : (k : ℕ) (info : ScalarInfo) → At made.scalars k info → info.topic ≡ k
    topic_is = at_two (λ k info. info.topic ≡ k) scalar_n scalar_k refl refl

    the_truths : node_truths made calc ≡ false ∷ []
    the_truths =
        ap (λ l. map (reads_truth made.scalars) l ++ map (λ x. x.truth) calc.locals.items) h.reads
        ∙ ap (λ l. false ∷ map (λ (x : LocalInfo). x.truth) l) h.locals

    typed : IsTyped made
    typed = record {
      node_times = at_one (λ n node. node.offset < node.period) calc (omega (arith, h.offset, h.period));
      module_times = λ m a at. absurd (none-some a at);
      ac_is = λ m a at. absurd (none-some a at);
      sc_is = λ m a at. absurd (none-some a at);
      plant_is = λ m a at. absurd (none-some a at);
      apart = λ m a at. absurd (none-some a at);
      sees_are = λ k plant n at. absurd (none-some plant at);
      named = λ k plant at. absurd (none-some plant at);
      reads_are = λ n node k v at has. absurd (at_one (λ n node. Has node.reads.items (State k v) → ⊥) calc (no_state k v) n node at has);
      inits = (omega (arith, ints), omega (arith, ints), (omega (arith, ints), omega (arith, ints), tt));
      local_inits = at_one (λ n node. IsWithin (local_ranges node) (map (λ l. l.init) node.locals.items)) calc
          (subst (λ (all : List LocalInfo). IsWithin (map (λ l. record { lo = l.lo; hi = l.hi }) all) (map (λ l. l.init) all)) (sym h.locals) tt);
      once = λ n node i j k at. at_one (λ n node. At node.writes.items i k → At node.writes.items j k → i ≡ j) calc
          (λ a b. only_place 1 calc.writes.items h.writes i k a ∙ sym (only_place 1 calc.writes.items h.writes j k b)) n node at;
      inside = λ n node k at. at_one (λ n node. Has node.writes.items k → k < 2) calc (λ a. let e = writes k a in omega (arith, e)) n node at;
      outside =
          λ n node t i info at at_t e less has. at_two (λ t info. info.outside ≡ true → ⊥) topic_n topic_k (λ e. false≢true e) (λ e. false≢true e) t info at_t
          e;
      scalar_topic =
          at_two (λ k info. (topic : TopicInfo) × At made.topics info.topic topic × (topic.first ≤ k) × (k < topic.first + topic.count)) scalar_n scalar_k
          (topic_n, refl, omega arith, omega arith) (topic_k, refl, omega arith, omega arith);
      topic_scalar =
          λ t k topic at. at_two (λ t topic. topic.first ≤ k → k < topic.first + topic.count → (info : ScalarInfo) × At made.scalars k info × (info.topic ≡ t))
          topic_n topic_k
          (λ a b. let e : 0 ≡ k = omega (arith, a, b) in subst (λ k. (info : ScalarInfo) × At made.scalars k info × (info.topic ≡ 0)) e (scalar_n, refl, refl))
          (λ a b. let e : 1 ≡ k = omega (arith, a, b) in subst (λ k. (info : ScalarInfo) × At made.scalars k info × (info.topic ≡ 1)) e (scalar_k, refl, refl))
          t topic at;
      whole_writes =
          λ n node j k a b at. at_one (λ n node. Has node.writes.items j → At made.scalars j a → At made.scalars k b → a.topic ≡ b.topic
          → Has node.writes.items k) calc
          (λ w x y e. subst (λ k. Has calc.writes.items k) (sym (topic_is j a x) ∙ e ∙ topic_is k b y) w) n node at;
      whole_inputs = λ i plant j k a b at. absurd (none-some plant at);
      inputs_are = λ i plant k at. absurd (none-some plant at);
    }

    number_n : MeetsScalarRules made scalar_n
    number_n = record {
      scale = omega arith;
      range = (omega (arith, ints), omega (arith, ints));
      truth = λ e. absurd (false≢true e);
      plain = λ topic at e. ap (λ t. t.count) (sym (same_Some topic_n topic at));
    }

    number_k : MeetsScalarRules made scalar_k
    number_k = record {
      scale = omega arith;
      range = (omega (arith, ints), omega (arith, ints));
      truth = λ e. absurd (false≢true e);
      plain = λ topic at e. ap (λ t. t.count) (sym (same_Some topic_k topic at));
    }

    node : MeetsNodeRules made calc
    node = record {
      period = omega (arith, h.period);
      reads = omega (arith, ap length h.reads);
      reads_scalars = λ k a. let e = reads k a in omega (arith, e);
      reads_states = λ k v a. absurd (no_state k v a);
      not_read = λ k a b. let e = reads k a in let f = writes k b in omega (arith, e, f);
      writes = omega (arith, ap length h.writes);
      locals = omega (arith, ap length h.locals);
      local_ranges = λ i info at. absurd (no_local i info at);
      external = λ e. h.locals;
      body =
          λ acts coded. division_fits D fits (node_truths made calc) (length calc.locals.items) (length calc.writes.items) acts the_truths (ap length h.writes)
          (subst (IsDivision D) (one_body calc h.body.0 acts h.body.1 coded) h.body.2);
    }

    rules : MeetsTableRules made
    rules = record {
      typed = typed;
      topic_count = omega arith;
      plant_count = omega arith;
      node_count = omega arith;
      module_count = omega arith;
      topics = at_two (λ t topic. (1 ≤ topic.count) × (topic.count ≤ 8)) topic_n topic_k (omega arith, omega arith) (omega arith, omega arith);
      scalars = at_two (λ k info. MeetsScalarRules made info) scalar_n scalar_k number_n number_k;
      plants = λ k plant at. absurd (none-some plant at);
      nodes = at_one (λ n node. MeetsNodeRules made node) calc node;
      modules = λ m info at. absurd (none-some info at);
      names_once = subst (λ name. AreDistinct ((110 ∷ []) ∷ (107 ∷ []) ∷ name ∷ [])) (sym h.name) names_apart;
      fields_once = λ i j a b at_i at_j s f. sym (topic_is i a at_i) ∙ s ∙ topic_is j b at_j;
    }

pub divide_meets_rules : (D : Term → Type 0) → ((truths : List Bool) (t : Term) → truths ≡ false ∷ [] → D t → TermFits truths t) → (p : Tables) → IsDivide D p
    → MeetsTableRules p
divide_meets_rules D fits p h =
    let e : made D fits h.nodes.0 h.nodes.1 ≡ p = λ i. record {
      topics = sym h.topics i;
      scalars = sym h.scalars i;
      plants = sym h.plants i;
      nodes = sym h.nodes.2 i;
      modules = sym h.modules i;
    } in
    subst MeetsTableRules e (rules D fits h.nodes.0 h.nodes.1)

-- what is said of one divisor is said of each that it may be
pub divides_so : (C D : Term → Type 0) (p : Tables) → ((t : Term) → C t → D t) → IsDivide C p → IsDivide D p
divides_so C D p more h =
    let node = h.nodes.1 in
    let body = node.body in
    record {
      topics = h.topics;
      scalars = h.scalars;
      plants = h.plants;
      nodes = (
        h.nodes.0,
        record {
          name = node.name;
          period = node.period;
          offset = node.offset;
          reads = node.reads;
          writes = node.writes;
          locals = node.locals;
          body = (body.0, body.1, (body.2.0, (body.2.1.0, more body.2.1.0 body.2.1.1, body.2.1.2), body.2.2));
        },
        h.nodes.2,
      );
      modules = h.modules;
    }
