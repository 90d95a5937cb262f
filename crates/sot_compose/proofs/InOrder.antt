-- Nodes of which each writes one topic, behind those of the nodes before it.
use Rattle.std.proofs.Common.{◌≡◌, ℕ, zero, suc, ◌+◌, ◌-◌, ◌<◌, ◌≤◌, ◌⊎◌, inl, inr, List, [], ◌∷◌, length, get_or, Option, Some, None, sym, ap, ◌∙◌, subst}
use Rattle.std.proofs.Common.{arith}
use Rattle.std.specs.Prelude.{IfSome}
use Rattle.std.proofs.lemmas.Option.{slice_get_within, same_Some}
use Rattle.sot_lang.specs.declared.tables.NodeInfo.{NodeInfo}
use Rattle.sot_lang.specs.declared.tables.ScalarInfo.{ScalarInfo}
use Rattle.sot_lang.specs.Tables.{Tables}
use Rattle.sot_lists.specs.Places.{At}
use Rattle.sot_rta.specs.Topics.{AreSomeOf}
use Rattle.sot_compose.specs.Outputs.{ArePartnersIn, Writes, AreRelated, AreAllRelated}
use Rattle.sot_compose.proofs.Strangers.{order}

-- one scalar alone is of one topic
pub only : (infos : List ScalarInfo) (scalars : List ℕ) (info : ScalarInfo) → length scalars ≡ 1 → At infos (get_or scalars 0 0) info → (u : ℕ)
    → AreSomeOf infos scalars u → u ≡ info.topic
only infos [] info one at u some = absurd (omega (arith, one))
only infos (x ∷ []) info one at u (k, (zero, at_k), (other, at_other, is)) =
    let same : x ≡ k = same_Some x k at_k in
    let info_is : info ≡ other = same_Some info other (sym at ∙ subst (λ j. At infos j other) (sym same) at_other) in
    sym is ∙ ap (λ (i : ScalarInfo). i.topic) (sym info_is)
only infos (x ∷ []) info one at u (k, (suc j, at_k), more) = cc
only infos (x ∷ y ∷ xs) info one at u some = absurd (omega (arith, one))

-- the topic of a node that was found
pub lone_is : (p : Tables) (n : ℕ) (node : NodeInfo) → At p.nodes n node → (infos : List ScalarInfo) (scalars : List ℕ) → infos ≡ p.scalars
    → scalars ≡ node.writes.items
    → (r : Option ℕ) → IfSome r (λ t. (u : ℕ) → AreSomeOf infos scalars u → u ≡ t) → IfSome r (λ t. (u : ℕ) → Writes p n u → u ≡ t)
lone_is p n node at infos scalars same are None h = h
lone_is p n node at infos scalars same are (Some t) h = λ u w.
    let is : w.0 ≡ node = same_Some w.0 node (sym w.1 ∙ at) in
    h u (subst (λ l. AreSomeOf l scalars u) (sym same) (subst (λ l. AreSomeOf p.scalars l u) (sym are)
    (subst (λ (x : NodeInfo). AreSomeOf p.scalars x.writes.items u) is w.2)))

-- the nodes before a place: all that they write is before next, and before behind but for the last of them, and those that share a topic are partners
pub record AreBefore (p : Tables) (node behind next : ℕ) : Type 0 where
  pub all : (i t : ℕ) → i < node → Writes p i t → t < next
  pub others : (i t : ℕ) → i + 1 < node → Writes p i t → t < behind
  pub related : (t i j : ℕ) → i < j → j < node → AreRelated p t i j

pub none_before : (p : Tables) → AreBefore p 0 0 0
none_before p = record {
  all = λ i t lt w. absurd (omega (arith, lt));
  others = λ i t lt w. absurd (omega (arith, lt));
  related = λ t i j lt le. absurd (omega (arith, le));
}

module _ (p : Tables) (node behind next topic : ℕ) (lone : (u : ℕ) → Writes p node u → u ≡ topic) (before : AreBefore p node behind next) where
  fresh : next ≤ topic → (t i : ℕ) → i < node → AreRelated p t i node
  fresh le t i lt a b at_a at_b w v =
      let is = lone t (b, at_b, v) in
      let less = before.all i t lt (a, at_a, w) in
      absurd (omega (arith, le, is, less))

  second : behind ≤ topic → 0 < node → ArePartnersIn p.modules (node - 1) node → (t i : ℕ) → i < node → AreRelated p t i node
  second le some partners t i lt a b at_a at_b w v =
      let is = lone t (b, at_b, v) in
      elim (order (i + 1) node) [
        | inl less ↦ absurd (let bound = before.others i t less (a, at_a, w) in omega (arith, le, is, bound))
        | inr (inl same) ↦ (let last : node - 1 ≡ i = omega (arith, same) in subst (λ k. ArePartnersIn p.modules k node) last partners)
        | inr (inr more) ↦ absurd (omega (arith, lt, more))
      ]

  apart : ((next ≤ topic) ⊎ ((behind ≤ topic) × (0 < node) × ArePartnersIn p.modules (node - 1) node)) → (t i : ℕ) → i < node → AreRelated p t i node
  apart (inl le) = fresh le
  apart (inr (le, some, partners)) = second le some partners

  pub one_more : ((next ≤ topic) ⊎ ((behind ≤ topic) × (0 < node) × ArePartnersIn p.modules (node - 1) node)) → (more : ℕ) → next ≤ more → topic + 1 ≤ more
      → AreBefore p (node + 1) next more
  one_more sort more above past = record {
    all = λ i t lt w. elim (order i node) [
      | inl less ↦ (let bound = before.all i t less w in omega (arith, above, bound))
      | inr (inl same) ↦ (let is = lone t (subst (λ k. Writes p k t) same w) in omega (arith, past, is))
      | inr (inr after) ↦ absurd (omega (arith, lt, after))
    ];
    others = λ i t lt w. before.all i t (omega (arith, lt)) w;
    related = λ t i j lt le. elim (order j node) [
      | inl less ↦ before.related t i j lt less
      | inr (inl same) ↦ subst (λ k. AreRelated p t i k) (sym same) (apart sort t i (omega (arith, lt, same)))
      | inr (inr after) ↦ absurd (omega (arith, le, after))
    ];
  }

-- all nodes were looked at
pub all_before : (p : Tables) (node behind next : ℕ) → length p.nodes ≤ node → AreBefore p node behind next → (t : ℕ) → AreAllRelated p t
all_before p node behind next le before t i j lt a b at_a at_b w v =
    before.related t i j lt (let there = slice_get_within p.nodes j b at_b in omega (arith, le, there)) a b at_a at_b w v
