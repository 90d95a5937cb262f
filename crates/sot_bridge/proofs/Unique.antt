-- Words and bytes decide one status.
use Rattle.std.proofs.Common.{◌≡◌, ◌∙◌, ℕ, zero, suc, ◌+◌, ◌*◌, ◌≤◌, Bool, true, false, List, [], ◌∷◌, ◌++◌, Option, None, Some, inl, inr, map}
use Rattle.std.proofs.Common.{refl, sym, ap, ap₂, subst, arith, Global}
use Rattle.std.specs.Prelude.{◌||◌, ◌==◌, if◌then◌else◌, String, IfSome, slice_index_or}
use Rattle.std.specs.Fmt.{decimal}
use Rattle.std.proofs.lemmas.Fmt.{decimal_injective}
use Rattle.std.proofs.lemmas.Option.{same_Some}
use Rattle.sot_lists.specs.Places.{At}
use Rattle.sot_lists.proofs.Places.{at_same}
use Rattle.sot_lang.specs.declared.tables.TopicInfo.{TopicInfo}
use Rattle.sot_lang.specs.declared.tables.ScalarInfo.{ScalarInfo}
use Rattle.sot_lang.specs.declared.tables.NodeInfo.{NodeInfo}
use Rattle.sot_lang.specs.Tables.{Tables}
use Rattle.sot_lang.specs.TableRules.{MeetsTableRules}
use Rattle.sot_lang.proofs.NamesOnce.{topic_same}
use Rattle.sot_typing.specs.Resolved.{ProgramTables, NodeTable, node_seen, tables_seen}
use Rattle.sot_law_equal_tables.proofs.Seen.{scalars_same, nodes_seen_same}
use Rattle.sot_flight.specs.Plans.{Plan}
use Rattle.sot_flight.specs.Counts.{due_count}
use Rattle.sot_bridge.specs.Words.{Asks}
use Rattle.sot_bridge.specs.MissionHalves.{MissionHalves, halves_of}
use Rattle.sot_bridge.specs.Topics.{IsNamed, Match}
use Rattle.sot_bridge.specs.Sends.{has_topic, due_sends}
use Rattle.sot_bridge.specs.declared.joining.JoinFault.{JoinFault}
use Rattle.sot_bridge.specs.declared.joining.JoinFault.TheVariants as kinds
use Rattle.sot_bridge.specs.Answers.{Side, SpellsSide, AreNamed, Joins, DoNotJoin, RefusesOne, Accepts, Refutes, Rejects, Replies, most}
use Rattle.sot_bridge.specs.Ends.{Decides}
use Rattle.sot_bridge.proofs.Alike.{Alike, alike, rules_of, accepted_refused, inside_outside, side_faulty}

-- a name tells one topic
named_once : (p : Tables) → MeetsTableRules p → (name : List ℕ) (outside : Bool) (k l : ℕ) → IsNamed p name outside k → IsNamed p name outside l → k ≡ l
named_once p rules name outside k l here there =
    topic_same p rules k l here.0 there.0 here.1 there.1 (here.2.0 ∙ sym there.2.0)

-- tables that look the same have the same topics, and as many sends may come of them
heads : {A : Type 0} (x y : A) (xs ys : List A) → x ∷ xs ≡ y ∷ ys → (x ≡ y) × (xs ≡ ys)
heads x y xs ys e = (cc, cc)

module _ (t u : Tables) (same : tables_seen t ≡ tables_seen u) where
  topics_same : t.topics ≡ u.topics
  topics_same = ap (λ (s : ProgramTables). s.topics) same

  named_moved : (name : List ℕ) (outside : Bool) (k : ℕ) → IsNamed t name outside k → IsNamed u name outside k
  named_moved name outside k named = (named.0, subst (λ (ts : List TopicInfo). At ts k named.0) topics_same named.1, named.2)

  has_topic_same : (topic : ℕ) (ks : List ℕ) → has_topic t topic ks ≡ has_topic u topic ks
  has_topic_same topic [] = refl
  has_topic_same topic (k ∷ ks) =
      ap₂ (λ (n : ℕ) (b : Bool). (n == topic) || b) (ap (λ (ss : List ScalarInfo). slice_index_or (map (λ i. i.topic) ss) k 0) (scalars_same t u same))
      (has_topic_same topic ks)

  due_sends_same : (topic h : ℕ) (ns ms : List NodeInfo) → map node_seen ns ≡ map node_seen ms → due_sends t topic h ns ≡ due_sends u topic h ms
  due_sends_same topic h [] [] e = refl
  due_sends_same topic h [] (m ∷ ms) e = absurd cc
  due_sends_same topic h (n ∷ ns) [] e = absurd cc
  due_sends_same topic h (n ∷ ns) (m ∷ ms) e =
      let both = heads (node_seen n) (node_seen m) (map node_seen ns) (map node_seen ms) e in
      ap₂ (λ (b : Bool) (r : ℕ). if b then due_count n.period n.offset h + r else r) (has_topic_same topic n.writes.items) (due_sends_same topic h ns ms both.1)
      ∙ ap (λ (x : NodeTable). if has_topic u topic x.writes then due_count x.period x.offset h + due_sends u topic h ms else due_sends u topic h ms) both.0

-- so missions that are alike join by the same topics
module _ (a a' b b' : Side) (like_a : Alike a a') (like_b : Alike b b') (from to : List ℕ) (delay k l : ℕ) where
  most_same : most a k ≡ most a' k
  most_same =
      due_sends_same a.tables a'.tables like_a.tables k a.plan.horizon a.tables.nodes a'.tables.nodes (nodes_seen_same a.tables a'.tables like_a.tables)
      ∙ ap (λ (f : Plan). due_sends a'.tables k f.horizon a'.tables.nodes) like_a.plan

  joins_moved : Joins a b from to delay k l → Joins a' b' from to delay k l
  unfolding named_moved
  joins_moved joins =
      let x = joins.named.from_is in
      let y = joins.named.to_is in
      let horizon_a = ap (λ (f : Plan). f.horizon) like_a.plan in
      let horizon_b = ap (λ (f : Plan). f.horizon) like_b.plan in
      let events = ap (λ (f : Plan). f.events) like_b.plan in
      let numbers = ap (λ (f : Plan). f.numbers) like_b.plan in
      let named : AreNamed a' b' from to k l = record {
        from_is = named_moved a.tables a'.tables like_a.tables from false k x;
        to_is = named_moved b.tables b'.tables like_b.tables to true l y;
      } in
      let long = joins.long in
      let few_events = joins.few_events in
      let few_numbers = joins.few_numbers in
      record {
        named = named;
        same = record {
          count = joins.same.count;
          each = λ i p q less at_p at_q. joins.same.each i p q less
              (subst (λ (ss : List ScalarInfo). At ss (x.0.first + i) p) (sym (scalars_same a.tables a'.tables like_a.tables)) at_p)
              (subst (λ (ss : List ScalarInfo). At ss (y.0.first + i) q) (sym (scalars_same b.tables b'.tables like_b.tables)) at_q);
        };
        long = omega (arith, long, horizon_a, horizon_b);
        few_events = omega (arith, few_events, events, most_same);
        few_numbers = subst (λ (n : ℕ). n + most a' k * y.0.count ≤ 1000000) numbers
            (subst (λ (n : ℕ). b.plan.numbers + n * y.0.count ≤ 1000000) most_same few_numbers);
      }

-- missions that join do not fail to
module _ (a b : Side) (a_rules : MeetsTableRules a.tables) (b_rules : MeetsTableRules b.tables) (from to : List ℕ) (delay k l : ℕ)
    (joins : Joins a b from to delay k l) where
  from_same : (k' l' : ℕ) → AreNamed a b from to k' l' → k ≡ k'
  from_same k' l' named = named_once a.tables a_rules from false k k' joins.named.from_is named.from_is

  to_same : (k' l' : ℕ) → AreNamed a b from to k' l' → l ≡ l'
  to_same k' l' named = named_once b.tables b_rules to true l l' joins.named.to_is named.to_is

  from_info : (k' l' : ℕ) (named : AreNamed a b from to k' l') → joins.named.from_is.0 ≡ named.from_is.0
  from_info k' l' named =
      at_same a.tables.topics k' joins.named.from_is.0 named.from_is.0
      (subst (λ (n : ℕ). At a.tables.topics n joins.named.from_is.0) (from_same k' l' named) joins.named.from_is.1) named.from_is.1

  to_info : (k' l' : ℕ) (named : AreNamed a b from to k' l') → joins.named.to_is.0 ≡ named.to_is.0
  to_info k' l' named =
      at_same b.tables.topics l' joins.named.to_is.0 named.to_is.0
      (subst (λ (n : ℕ). At b.tables.topics n joins.named.to_is.0) (to_same k' l' named) joins.named.to_is.1) named.to_is.1

  joined_not_apart : (f : JoinFault) → DoNotJoin a b from to delay f → ⊥
  joined_not_apart kinds.Unknown (inl none) = none k joins.named.from_is
  joined_not_apart kinds.Unknown (inr none) = none l joins.named.to_is
  joined_not_apart kinds.Type (k', l', named, differ) =
      differ (subst (λ (x : TopicInfo). Match a.tables b.tables x named.to_is.0) (from_info k' l' named)
      (subst (λ (y : TopicInfo). Match a.tables b.tables joins.named.from_is.0 y) (to_info k' l' named) joins.same))
  joined_not_apart kinds.Horizon (k', l', named, same, less) = (let long = joins.long in absurd (omega (arith, less, long)))
  joined_not_apart kinds.TooManyEvents (k', l', named, same, long, many) =
      (let few = subst (λ (n : ℕ). b.plan.events + most a n ≤ 200000) (from_same k' l' named) joins.few_events in absurd (omega (arith, many, few)))
  joined_not_apart kinds.TooManyNumbers (k', l', named, same, long, room, many) =
      (let few = subst (λ (x : TopicInfo). b.plan.numbers + most a k' * x.count ≤ 1000000) (to_info k' l' named)
      (subst (λ (n : ℕ). b.plan.numbers + most a n * joins.named.to_is.0.count ≤ 1000000) (from_same k' l' named) joins.few_numbers) in
      absurd (omega (arith, many, few)))

-- a text is divided in one way
one_division : (bytes : List ℕ) (g h : MissionHalves) → halves_of bytes ≡ Some g → halves_of bytes ≡ Some h → g ≡ h
one_division bytes g h e f = same_Some g h (sym e ∙ f)

pair_alike : (bytes : List ℕ) (a b a' b' : Side) (g h : MissionHalves) → halves_of bytes ≡ Some g → SpellsSide g.a a → SpellsSide g.b b
    → halves_of bytes ≡ Some h → SpellsSide h.a a' → SpellsSide h.b b' → Alike a a' × Alike b b'
pair_alike bytes a b a' b' g h e sa sb f sa' sb' =
    let same = one_division bytes g h e f in (
      alike h.a a a' (subst (λ (x : MissionHalves). SpellsSide x.a a) same sa) sa',
      alike h.b b b' (subst (λ (x : MissionHalves). SpellsSide x.b b) same sb) sb',
    )

-- two missions that are spelled and join are not rejected
not_rejected : (from to : List ℕ) (delay : ℕ) (bytes text : List ℕ) (a b : Side) (k l : ℕ) (g : MissionHalves) → halves_of bytes ≡ Some g → SpellsSide g.a a
    → SpellsSide g.b b → Joins a b from to delay k l → Rejects from to delay bytes text → ⊥
not_rejected from to delay bytes text a b k l g e sa sb joins (inl (none, says)) = (let both = sym e ∙ none in absurd cc)
not_rejected from to delay bytes text a b k l g e sa sb joins (inr (inl (h, f, inl (fault, has, says)))) =
    side_faulty h.a a fault (subst (λ (x : MissionHalves). SpellsSide x.a a) (one_division bytes g h e f) sa) has
not_rejected from to delay bytes text a b k l g e sa sb joins (inr (inl (h, f, inr (a', spells, (fault, has, says))))) =
    side_faulty h.b b fault (subst (λ (x : MissionHalves). SpellsSide x.b b) (one_division bytes g h e f) sb) has
not_rejected from to delay bytes text a b k l g e sa sb joins (inr (inr (a', b', (h, f, sa', sb'), (fault, apart, says)))) =
    let both = pair_alike bytes a b a' b' g h e sa sb f sa' sb' in
    joined_not_apart a' b' (rules_of h.a a' sa') (rules_of h.b b' sb') from to delay k l (joins_moved a a' b b' both.0 both.1 from to delay k l joins)
    fault apart

-- what is accepted is not refused
not_refuted : (from to : List ℕ) (delay : ℕ) (bytes text other : List ℕ) → Accepts from to delay bytes text → Refutes from to delay bytes other → ⊥
not_refuted from to delay bytes text other x (a', b', k, l, (h, f, sa', sb'), joins, refuses) =
    let p = x.spelled in
    let both = pair_alike bytes x.a x.b a' b' p.0 h p.1 p.2 p.3 f sa' sb' in
    go both.0 both.1 refuses
  where
    go : Alike x.a a' → Alike x.b b' → RefusesOne a' b' other → ⊥
    go like_a like_b (inl (line, (r, refuses, is), says)) = accepted_refused x.a a' like_a x.a_accepted r refuses
    go like_a like_b (inr (inl (ok, (line, (r, refuses, is), says)))) = accepted_refused x.b b' like_b x.b_accepted r refuses
    go like_a like_b (inr (inr (inl (ok, ok', (line, (m, first, is), says))))) = inside_outside x.a a' like_a x.a_starts m first
    go like_a like_b (inr (inr (inr (ok, ok', starts, (line, (m, first, is), says))))) = inside_outside x.b b' like_b x.b_starts m first

accepted_not_rejected : (from to : List ℕ) (delay : ℕ) (bytes text other : List ℕ) → Accepts from to delay bytes text → Rejects from to delay bytes other → ⊥
accepted_not_rejected from to delay bytes text other x rejects =
    let p = x.spelled in not_rejected from to delay bytes other x.a x.b x.k x.l p.0 p.1 p.2 p.3 x.joins rejects

refuted_not_rejected : (from to : List ℕ) (delay : ℕ) (bytes text other : List ℕ) → Refutes from to delay bytes text → Rejects from to delay bytes other → ⊥
refuted_not_rejected from to delay bytes text other (a, b, k, l, (g, e, sa, sb), joins, refuses) rejects =
    not_rejected from to delay bytes other a b k l g e sa sb joins rejects

-- one status is answered
replies_once : (from to : List ℕ) (delay : ℕ) (bytes text other : List ℕ) (s t : ℕ) → Replies from to delay bytes s text → Replies from to delay bytes t other
    → s ≡ t
replies_once from to delay bytes text other s t (inl (is, x)) (inl (is', y)) = is ∙ sym is'
replies_once from to delay bytes text other s t (inl (is, x)) (inr (inl (is', y))) = absurd (not_refuted from to delay bytes text other x y)
replies_once from to delay bytes text other s t (inl (is, x)) (inr (inr (is', y))) = absurd (accepted_not_rejected from to delay bytes text other x y)
replies_once from to delay bytes text other s t (inr (inl (is, x))) (inl (is', y)) = absurd (not_refuted from to delay bytes other text y x)
replies_once from to delay bytes text other s t (inr (inl (is, x))) (inr (inl (is', y))) = is ∙ sym is'
replies_once from to delay bytes text other s t (inr (inl (is, x))) (inr (inr (is', y))) = absurd (refuted_not_rejected from to delay bytes text other x y)
replies_once from to delay bytes text other s t (inr (inr (is, x))) (inl (is', y)) = absurd (accepted_not_rejected from to delay bytes other text y x)
replies_once from to delay bytes text other s t (inr (inr (is, x))) (inr (inl (is', y))) = absurd (refuted_not_rejected from to delay bytes other text y x)
replies_once from to delay bytes text other s t (inr (inr (is, x))) (inr (inr (is', y))) = is ∙ sym is'

-- words ask for one bridge
asks_once : (words : List (String Global)) (from to from' to' : List ℕ) (delay delay' : ℕ) → Asks words from to delay → Asks words from' to' delay'
    → (from ≡ from') × (to ≡ to') × (delay ≡ delay')
asks_once words from to from' to' delay delay' x y =
    let first = heads from from' (to ∷ decimal delay ∷ []) (to' ∷ decimal delay' ∷ []) (sym x.0 ∙ y.0) in
    let second = heads to to' (decimal delay ∷ []) (decimal delay' ∷ []) first.1 in
    let third = heads (decimal delay) (decimal delay') [] [] second.1 in
    let low = x.1 in
    let low' = y.1 in
    (first.0, second.0, decimal_injective delay delay' (omega (arith, low)) (omega (arith, low')) third.0)

asked_once : (words : List (String Global)) (bytes text other : List ℕ) (from to from' to' : List ℕ) (delay delay' s t : ℕ) → Asks words from to delay
    → Asks words from' to' delay' → Replies from to delay bytes s text → Replies from' to' delay' bytes t other → s ≡ t
asked_once words bytes text other from to from' to' delay delay' s t asks asks' x y =
    let same = asks_once words from to from' to' delay delay' asks asks' in
    let moved = subst (λ (n : ℕ). Replies from' to' n bytes s text) same.2
    (subst (λ (q : List ℕ). Replies from' q delay bytes s text) same.1 (subst (λ (q : List ℕ). Replies q to delay bytes s text) same.0 x)) in
    replies_once from' to' delay' bytes text other s t moved y

pub decides_once : (words : List (String Global)) (bytes : List ℕ) (s t : ℕ) → Decides words bytes s → Decides words bytes t → s ≡ t
decides_once words bytes s t (inl (is, none)) (inl (is', none')) = is ∙ sym is'
decides_once words bytes s t (inl (is, none)) (inr (inl (is', (from, to, delay, asks), long))) = absurd (none from to delay asks)
decides_once words bytes s t (inl (is, none)) (inr (inr (from, to, delay, asks, short, says))) = absurd (none from to delay asks)
decides_once words bytes s t (inr (inl (is, (from, to, delay, asks), long))) (inl (is', none)) = absurd (none from to delay asks)
decides_once words bytes s t (inr (inl (is, asks, long))) (inr (inl (is', asks', long'))) = is ∙ sym is'
decides_once words bytes s t (inr (inl (is, asks, long))) (inr (inr (from, to, delay, asks', short, says))) = absurd (omega (arith, long, short))
decides_once words bytes s t (inr (inr (from, to, delay, asks, short, says))) (inl (is', none)) = absurd (none from to delay asks)
decides_once words bytes s t (inr (inr (from, to, delay, asks, short, says))) (inr (inl (is', asks', long))) = absurd (omega (arith, long, short))
decides_once words bytes s t (inr (inr (from, to, delay, asks, short, (text, x)))) (inr (inr (from', to', delay', asks', short', (other, y)))) =
    asked_once words bytes text other from to from' to' delay delay' s t asks asks' x y

-- so a status that is decided is the only one
pub only : (words : List (String Global)) (left : Option (List ℕ)) (status : ℕ) → IfSome left (λ bytes. Decides words bytes status)
    → IfSome left (λ bytes. (s : ℕ) → Decides words bytes s → status ≡ s)
only words None status decides = tt
only words (Some bytes) status decides = λ s other. decides_once words bytes status s decides other
