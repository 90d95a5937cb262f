-- Things of a program by their places.
use Rattle.std.proofs.Common.{◌≡◌, ℕ, ◌<◌, ◌≤◌, List, length, sym, ap, ◌∙◌, subst, arith, ⊎_elim}
use Rattle.std.proofs.lemmas.Option.{slice_get_within, same_Some}
use Rattle.sot_lang.specs.declared.tables.NodeInfo.{NodeInfo}
use Rattle.sot_lang.specs.declared.tables.ScalarInfo.{ScalarInfo}
use Rattle.sot_lists.specs.Places.{Has, At}
use Rattle.sot_tube.specs.Modules.{AreSameOutputs}
use Rattle.sot_tube.specs.Checks.{IsLeastNumber}
use Rattle.sot_tube.specs.Verdict.{IsLonger, IsWrittenByOne}
use Rattle.sot_rta.specs.Topics.{AreSomeOf, IsOfOneAlone, AreAlike}
use Rattle.sot_lang.specs.declared.tables.ModuleInfo.{ModuleInfo}
use Rattle.sot_lang.specs.Tables.{Tables}
use Rattle.sot_lang.specs.TableRules.{MeetsTableRules}

module _ (p : Tables) (rules : MeetsTableRules p) (m : ℕ) (a : ModuleInfo) (at : At p.modules m a) where
  pub ac_there : a.ac < length p.nodes
  ac_there = let n = rules.typed.ac_is m a at in slice_get_within p.nodes a.ac n.0 n.1

  pub sc_there : a.sc < length p.nodes
  sc_there = let n = rules.typed.sc_is m a at in slice_get_within p.nodes a.sc n.0 n.2

  pub plant_there : a.plant < length p.plants
  plant_there = let n = rules.typed.plant_is m a at in slice_get_within p.plants a.plant n.0 n.1

-- the node at a place is not longer, if the one that was found there is not
pub not_longer : (p : Tables) (a : ModuleInfo) (n : ℕ) (node : NodeInfo) → At p.nodes n node → node.period ≤ a.period → IsLonger p a n → ⊥
not_longer p a n node at le longer =
    let same : longer.0 ≡ node = same_Some longer.0 node (sym longer.1 ∙ at) in
    let period = ap (λ (x : NodeInfo). x.period) same in
    omega (arith, longer.2, le, period)

-- scalars written by a node exist
pub written_there : (p : Tables) → MeetsTableRules p → (n : ℕ) (node : NodeInfo) → At p.nodes n node → (scalars : List ScalarInfo) (writes : List ℕ)
    → scalars ≡ p.scalars → writes ≡ node.writes.items
    → (k : ℕ) → Has writes k → k < length scalars
written_there p rules n node at scalars writes same are k h = subst (λ l. k < length l) (sym same) (rules.typed.inside n node k at (subst (λ l. Has l k) are h))

-- a topic of some scalars exists
pub topic_there : (p : Tables) → MeetsTableRules p → (ks : List ℕ) (t : ℕ) → AreSomeOf p.scalars ks t → t < length p.topics
topic_there p rules ks t some =
    let topic = rules.typed.scalar_topic some.0 some.2.0 some.2.1 in
    subst (λ u. u < length p.topics) some.2.2 (slice_get_within p.topics some.2.0.topic topic.0 topic.1)

-- which topics a module's nodes write alone, by the nodes that were found and the lists that were read
module _ (p : Tables) (a : ModuleInfo) (ac sc : NodeInfo) (ac_at : At p.nodes a.ac ac) (sc_at : At p.nodes a.sc sc) where
  not_by_one : (t : ℕ) → AreAlike p.scalars ac.writes.items sc.writes.items t → IsWrittenByOne p a t → ⊥
  not_by_one t alike one =
      let same_a : one.0 ≡ ac = same_Some one.0 ac (sym one.2 ∙ ac_at) in
      let same_s : one.1 ≡ sc = same_Some one.1 sc (sym one.3 ∙ sc_at) in
      let o : IsOfOneAlone p.scalars ac.writes.items sc.writes.items t =
      subst (λ (x : NodeInfo). IsOfOneAlone p.scalars x.writes.items sc.writes.items t) same_a
      (subst (λ (x : NodeInfo). IsOfOneAlone p.scalars one.0.writes.items x.writes.items t) same_s one.4) in
      ⊎_elim (λ l. l.1 (alike.0 l.0)) (λ r. r.1 (alike.1 r.0)) o

  same_outputs : MeetsTableRules p → ((t : ℕ) → t < length p.topics → AreAlike p.scalars ac.writes.items sc.writes.items t) → AreSameOutputs p a
  same_outputs rules each ac' sc' t ac_at' sc_at' =
      let same_a : ac ≡ ac' = same_Some ac ac' (sym ac_at ∙ ac_at') in
      let same_s : sc ≡ sc' = same_Some sc sc' (sym sc_at ∙ sc_at') in
      let alike : AreAlike p.scalars ac.writes.items sc.writes.items t = (
        (λ w. (each t (topic_there p rules ac.writes.items t w)).0 w),
        (λ w. (each t (topic_there p rules sc.writes.items t w)).1 w),
      ) in
      subst (λ (x : NodeInfo). AreAlike p.scalars x.writes.items sc'.writes.items t) same_a
      (subst (λ (x : NodeInfo). AreAlike p.scalars ac.writes.items x.writes.items t) same_s alike)

  pub least_alone : (scalars : List ScalarInfo) (some others : List ℕ) → scalars ≡ p.scalars → some ≡ ac.writes.items → others ≡ sc.writes.items
      → (t : ℕ) → IsOfOneAlone scalars some others t → ((u : ℕ) → u < t → AreAlike scalars some others u) → IsLeastNumber (IsWrittenByOne p a) t
  least_alone scalars some others e f g t has before =
      let here : IsOfOneAlone p.scalars ac.writes.items sc.writes.items t =
      subst (λ x. IsOfOneAlone x ac.writes.items sc.writes.items t) e
      (subst (λ x. IsOfOneAlone scalars x sc.writes.items t) f (subst (λ x. IsOfOneAlone scalars some x t) g has)) in
      record {
        has = (ac, sc, ac_at, sc_at, here);
        least =
            λ u lt. not_by_one u (subst (λ x. AreAlike x ac.writes.items sc.writes.items u) e
            (subst (λ x. AreAlike scalars x sc.writes.items u) f (subst (λ x. AreAlike scalars some x u) g (before u lt))));
      }

  pub all_alike : MeetsTableRules p → (scalars : List ScalarInfo) (some others : List ℕ) → scalars ≡ p.scalars → some ≡ ac.writes.items
      → others ≡ sc.writes.items
      → ((t : ℕ) → t < length p.topics → AreAlike scalars some others t) → AreSameOutputs p a
  all_alike rules scalars some others e f g each =
      same_outputs rules (λ t lt. subst (λ x. AreAlike x ac.writes.items sc.writes.items t) e
      (subst (λ x. AreAlike scalars x sc.writes.items t) f (subst (λ x. AreAlike scalars some x t) g (each t lt))))
