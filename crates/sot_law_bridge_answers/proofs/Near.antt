-- A name tells one topic, missions that are alike send as often, and a text is divided in one way.
use Rattle.std.proofs.Common.{◌≡◌, ◌∙◌, ℕ, ◌+◌, Bool, List, [], ◌∷◌, Some, map}
use Rattle.std.proofs.Common.{refl, sym, ap, ap₂, subst}
use Rattle.std.specs.Prelude.{◌||◌, ◌==◌, if◌then◌else◌, slice_index_or}
use Rattle.std.proofs.lemmas.Option.{same_Some}
use Rattle.sot_lists.specs.Places.{At}
use Rattle.sot_lang.specs.declared.tables.TopicInfo.{TopicInfo}
use Rattle.sot_lang.specs.declared.tables.ScalarInfo.{ScalarInfo}
use Rattle.sot_lang.specs.declared.tables.NodeInfo.{NodeInfo}
use Rattle.sot_lang.specs.Tables.{Tables}
use Rattle.sot_lang.specs.TableRules.{MeetsTableRules}
use Rattle.sot_lang.proofs.NamesOnce.{topic_same}
use Rattle.sot_typing.specs.Resolved.{ProgramTables, NodeTable, node_seen, tables_seen}
use Rattle.sot_law_equal_tables.proofs.Seen.{scalars_same, nodes_seen_same}
use Rattle.sot_flight.specs.Plans.{Plan}
use Rattle.sot_flight.specs.Counts.{due_count}
use Rattle.sot_bridge.specs.MissionHalves.{MissionHalves, halves_of}
use Rattle.sot_bridge.specs.Topics.{IsNamed}
use Rattle.sot_bridge.specs.Sends.{has_topic, due_sends}
use Rattle.sot_bridge.specs.Answers.{Side, most}
use Rattle.sot_bridge.proofs.Alike.{Alike}

-- a name tells one topic
pub named_once : (p : Tables) → MeetsTableRules p → (name : List ℕ) (outside : Bool) (k l : ℕ) → IsNamed p name outside k → IsNamed p name outside l
    → k ≡ l
named_once p rules name outside k l here there =
    topic_same p rules k l here.0 there.0 here.1 there.1 (here.2.0 ∙ sym there.2.0)

-- tables that look the same have the same topics, and as many sends may come of them
heads : {A : Type 0} (x y : A) (xs ys : List A) → x ∷ xs ≡ y ∷ ys → (x ≡ y) × (xs ≡ ys)
heads x y xs ys e = (cc, cc)

module _ (t u : Tables) (same : tables_seen t ≡ tables_seen u) where
  topics_same : t.topics ≡ u.topics
  topics_same = ap (λ (s : ProgramTables). s.topics) same

  named_moved : (name : List ℕ) (outside : Bool) (k : ℕ) → IsNamed t name outside k → IsNamed u name outside k
  named_moved name outside k named = (named.0, subst (λ (ts : List TopicInfo). At ts k named.0) topics_same named.1, named.2)

  has_topic_same : (topic : ℕ) (ks : List ℕ) → has_topic t topic ks ≡ has_topic u topic ks
  has_topic_same topic [] = refl
  has_topic_same topic (k ∷ ks) =
      ap₂ (λ (n : ℕ) (b : Bool). (n == topic) || b) (ap (λ (ss : List ScalarInfo). slice_index_or (map (λ i. i.topic) ss) k 0) (scalars_same t u same))
      (has_topic_same topic ks)

  due_sends_same : (topic h : ℕ) (ns ms : List NodeInfo) → map node_seen ns ≡ map node_seen ms → due_sends t topic h ns ≡ due_sends u topic h ms
  due_sends_same topic h [] [] e = refl
  due_sends_same topic h [] (m ∷ ms) e = absurd cc
  due_sends_same topic h (n ∷ ns) [] e = absurd cc
  due_sends_same topic h (n ∷ ns) (m ∷ ms) e =
      let both = heads (node_seen n) (node_seen m) (map node_seen ns) (map node_seen ms) e in
      ap₂ (λ (b : Bool) (r : ℕ). if b then due_count n.period n.offset h + r else r) (has_topic_same topic n.writes.items) (due_sends_same topic h ns ms both.1)
      ∙ ap (λ (x : NodeTable). if has_topic u topic x.writes then due_count x.period x.offset h + due_sends u topic h ms else due_sends u topic h ms) both.0

-- so missions that are alike join by the same topics
module _ (a a' b b' : Side) (like_a : Alike a a') (like_b : Alike b b') (from to : List ℕ) (delay k l : ℕ) where
  pub most_same : most a k ≡ most a' k
  most_same =
      due_sends_same a.tables a'.tables like_a.tables k a.plan.horizon a.tables.nodes a'.tables.nodes (nodes_seen_same a.tables a'.tables like_a.tables)
      ∙ ap (λ (f : Plan). due_sends a'.tables k f.horizon a'.tables.nodes) like_a.plan

-- a text is divided in one way
pub one_division : (bytes : List ℕ) (g h : MissionHalves) → halves_of bytes ≡ Some g → halves_of bytes ≡ Some h → g ≡ h
one_division bytes g h e f = same_Some g h (sym e ∙ f)
