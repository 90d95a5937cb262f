-- Whole topics are written and taken, so what is said of topics holds of scalars.
use Rattle.std.proofs.Common.{ℕ, refl, sym, ◌∙◌}
use Rattle.sot_lang.specs.declared.tables.NodeInfo.{NodeInfo}
use Rattle.sot_lang.specs.Tables.{Tables}
use Rattle.sot_lists.specs.Places.{At, Has}
use Rattle.sot_lang.specs.TableRules.{IsTyped}
use Rattle.sot_tube.specs.Topics.{IsOfTopic, WritesTopic}
use Rattle.sot_tube.specs.Composition.{IsComposed, IsComposedByScalars}
use Rattle.sot_lists.proofs.Places.{at_below}

-- a scalar that a node writes has a topic, which the node writes
pub writes_its_topic : (p : Tables) → IsTyped p → (n : ℕ) (node : NodeInfo) (k : ℕ) → At p.nodes n node → Has node.writes.items k
    → (t : ℕ) × IsOfTopic p k t × WritesTopic p node t
writes_its_topic p typed n node k at has =
    let info = at_below p.scalars k (typed.inside n node k at has) in
    (info.0.topic, (info.0, info.1, refl), (k, has, (info.0, info.1, refl)))

-- a node that writes a topic writes each scalar of it
pub writes_all : (p : Tables) → IsTyped p → (n : ℕ) (node : NodeInfo) (t k : ℕ) → At p.nodes n node → WritesTopic p node t → IsOfTopic p k t
    → Has node.writes.items k
writes_all p typed n node t k at writes of = typed.whole_writes n node writes.0 k writes.2.0 of.0 at writes.1 writes.2.1 of.1 (writes.2.2 ∙ sym of.2)

pub composed_by_scalars : (p : Tables) → IsTyped p → IsComposed p → IsComposedByScalars p
composed_by_scalars p typed c = record {
  own_node = c.own_node;
  own_output = λ n n' a b k at_a at_b has_a has_b ne.
      let w = writes_its_topic p typed n a k at_a has_a in
      c.own_output n n' a b w.0 at_a at_b w.2 (k, has_b, w.1) ne;
  own_plant = c.own_plant;
  own_inputs = λ m a plant sc i k at_m at_p at_s at_i.
      let info = at_below p.scalars k (typed.inputs_are a.plant plant k at_p (i, at_i)) in
      let of : IsOfTopic p k info.0.topic = (info.0, info.1, refl) in
      writes_all p typed a.sc sc info.0.topic k at_s (c.own_inputs m a at_m plant sc info.0.topic at_p at_s (k, (i, at_i), of)) of;
}
