-- Nodes that write a topic.
use Rattle.std.proofs.Common.{◌≡◌, ℕ, ◌+◌, ◌≤◌, ◌≢◌, Bool, true, false, ◌⊎◌, inl, inr, List, drop, map, refl, sym, ap, ◌∙◌, arith}
use Rattle.std.specs.Prelude.{◌==◌, ◌||◌, if◌then◌else◌}
use Rattle.std.proofs.lemmas.Bool.{eq-eqb}
use Rattle.std.proofs.lemmas.Bool.Decides.{eqb_tells}
use Rattle.std.proofs.lemmas.Option.{get_or_from_slice_get}
use Rattle.sot_lists.specs.Places.{At}
use Rattle.sot_lists.proofs.Places.{drop_at, at_map}
use Rattle.sot_lang.specs.declared.tables.ScalarInfo.{ScalarInfo}
use Rattle.sot_lang.specs.declared.tables.NodeInfo.{NodeInfo}
use Rattle.sot_lang.specs.Tables.{Tables}
use Rattle.sot_flight.specs.Counts.{due_count}
use Rattle.sot_flight.proofs.DueCounts.{due_small}
use Rattle.sot_board.specs.Versions.{topic_of}
use Rattle.sot_bridge.specs.Sends.{has_topic, due_sends}

pub topic_is : (p : Tables) (k : ℕ) (info : ScalarInfo) → At p.scalars k info → topic_of p k ≡ info.topic
topic_is p k info at = get_or_from_slice_get (map (λ i. i.topic) p.scalars) k info.topic 0 (at_map (λ i. i.topic) p.scalars k info at)

module _ (p : Tables) (topic : ℕ) where
  -- a scalar of another topic is passed
  pub has_more : (ks : List ℕ) (i k : ℕ) (total : Bool) → At ks i k → topic_of p k ≢ topic → has_topic p topic (drop i ks) ≡ total
      → has_topic p topic (drop (i + 1) ks) ≡ total
  has_more ks i k total at other so_far = go (eqb_tells (topic_of p k) topic)
    where
      go : (((topic_of p k == topic) ≡ true) × (topic_of p k ≡ topic)) ⊎ (((topic_of p k == topic) ≡ false) × (topic_of p k ≢ topic))
          → has_topic p topic (drop (i + 1) ks) ≡ total
      go (inl same) = absurd (other same.1)
      go (inr differs) = ap (λ (b : Bool). b || has_topic p topic (drop (i + 1) ks)) (sym differs.0) ∙ sym (ap (has_topic p topic) (drop_at ks i k at)) ∙ so_far

  -- a scalar of the topic is found
  pub has_here : (ks : List ℕ) (i k : ℕ) (total : Bool) → At ks i k → topic_of p k ≡ topic → has_topic p topic (drop i ks) ≡ total → true ≡ total
  has_here ks i k total at same so_far =
      ap (λ (b : Bool). b || has_topic p topic (drop (i + 1) ks)) (sym (eq-eqb (topic_of p k) topic same))
      ∙ sym (ap (has_topic p topic) (drop_at ks i k at)) ∙ so_far

  -- how often one node sends at most
  abbrev pub node_sends : ℕ → NodeInfo → ℕ
  node_sends horizon n = if has_topic p topic n.writes.items then due_count n.period n.offset horizon else 0

  pub sends_more : (horizon : ℕ) (nodes : List NodeInfo) (i : ℕ) (n : NodeInfo) → At nodes i n
      → due_sends p topic horizon (drop i nodes) ≡ node_sends horizon n + due_sends p topic horizon (drop (i + 1) nodes)
  sends_more horizon nodes i n at = ap (due_sends p topic horizon) (drop_at nodes i n at) ∙ go (has_topic p topic n.writes.items)
    where
      go : (b : Bool)
          → (if b then due_count n.period n.offset horizon + due_sends p topic horizon (drop (i + 1) nodes)
          else due_sends p topic horizon (drop (i + 1) nodes))
          ≡ (if b then due_count n.period n.offset horizon else 0) + due_sends p topic horizon (drop (i + 1) nodes)
      go true = refl
      go false = omega arith

  pub sends_small : (horizon : ℕ) (n : NodeInfo) → horizon ≤ 100000 → node_sends horizon n ≤ 100001
  sends_small horizon n le = go (has_topic p topic n.writes.items)
    where
      go : (b : Bool) → (if b then due_count n.period n.offset horizon else 0) ≤ 100001
      go true = (let small = due_small n.period n.offset horizon in omega (arith, small, le))
      go false = omega arith
