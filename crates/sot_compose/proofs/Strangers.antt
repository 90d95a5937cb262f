-- Nodes that share a topic without being partners.
use Rattle.std.proofs.Common.{◌≡◌, ℕ, ◌+◌, ◌<◌, ◌≤◌, ◌⊎◌, inl, inr, Bool, true, false, List, length, refl, sym, ◌∙◌, subst, arith, IsTrue, ◌↔◌, not}
use Rattle.std.proofs.lemmas.Bool.{false≢true}
use Rattle.std.proofs.lemmas.Option.{slice_get_within, same_Some}
use Rattle.sot_lang.specs.declared.tables.NodeInfo.{NodeInfo}
use Rattle.sot_lang.specs.declared.tables.ModuleInfo.{ModuleInfo}
use Rattle.sot_lang.specs.Tables.{Tables}
use Rattle.sot_lists.specs.Places.{At}
use Rattle.sot_tube.specs.Topics.{WritesTopic}
use Rattle.sot_tube.specs.Verdict.{ShareOutput}
use Rattle.sot_compose.specs.Outputs.{ArePartnersIn, Writes, AreRelated, AreAllRelated, IsFirstWriter}

-- two nodes that write a topic, by whether they are partners
pub shares : (p : Tables) (t n k : ℕ) (a b c : Bool) (ms : List ModuleInfo) → (IsTrue a ↔ Writes p n t) → (IsTrue b ↔ Writes p k t)
    → (IsTrue c ↔ ArePartnersIn ms n k) → ms ≡ p.modules
    → a ≡ true → b ≡ true → not c ≡ true → ShareOutput p t n k
shares p t n k a b false ms x y z same d e f =
    let one = x.0 (subst IsTrue (sym d) refl) in
    let other = y.0 (subst IsTrue (sym e) refl) in
    (one.0, other.0, one.1, other.1, one.2, other.2, λ partners. false≢true (z.1 (subst (λ l. ArePartnersIn l n k) (sym same) partners)))
shares p t n k a b true ms x y z same d e f = absurd (false≢true f)

pub related : (p : Tables) (t n k : ℕ) (c : Bool) (ms : List ModuleInfo) → (IsTrue c ↔ ArePartnersIn ms n k) → ms ≡ p.modules → not c ≡ false
    → AreRelated p t n k
related p t n k false ms z same f i j at_i at_j w v = absurd (false≢true (sym f))
related p t n k true ms z same f i j at_i at_j w v = subst (λ l. ArePartnersIn l n k) same (z.0 refl)

pub not_written_too : (p : Tables) (t n k : ℕ) (a : Bool) → (IsTrue a ↔ Writes p k t) → a ≡ false → AreRelated p t n k
not_written_too p t n k a x e i j at_i at_j w v = absurd (false≢true (sym e ∙ x.1 (j, at_j, v)))

-- a node that does not write the topic is related to each
pub not_written : (p : Tables) (t n : ℕ) (a : Bool) → (IsTrue a ↔ Writes p n t) → a ≡ false → (k : ℕ) → AreRelated p t n k
not_written p t n a x e k i j at_i at_j w v = absurd (false≢true (sym e ∙ x.1 (i, at_i, w)))

-- a node that is not there too
pub not_there : (p : Tables) (t n k : ℕ) → length p.nodes ≤ k → AreRelated p t n k
not_there p t n k le i j at_i at_j w v = absurd (omega (arith, le, slice_get_within p.nodes k j at_j))

-- what a node that was found writes
pub writes_is : (p : Tables) (n t : ℕ) (node : NodeInfo) (b : Bool) → At p.nodes n node → (IsTrue b ↔ WritesTopic p node t) → IsTrue b ↔ Writes p n t
writes_is p n t node b at iff = (
  (λ h. (node, at, iff.0 h)),
  (λ w. iff.1 (subst (λ (x : NodeInfo). WritesTopic p x t) (same_Some w.0 node (sym w.1 ∙ at)) w.2)),
)

-- a topic that no node writes, one, or two partners
pub none_write : (p : Tables) (t : ℕ) → ((k : ℕ) → 0 ≤ k → Writes p k t → ⊥) → AreAllRelated p t
none_write p t none n k lt i j at_i at_j w v = absurd (none n (omega arith) (i, at_i, w))

pub order : (k a : ℕ) → (k < a) ⊎ ((k ≡ a) ⊎ (a < k))
order k a = grind arith

pub one_writes : (p : Tables) (t a : ℕ) → IsFirstWriter p t 0 a → ((k : ℕ) → a + 1 ≤ k → Writes p k t → ⊥) → AreAllRelated p t
one_writes p t a first none n k lt i j at_i at_j w v = elim (order k a) [
  | inl less ↦ absurd (first.before k (omega arith) less (j, at_j, v))
  | inr (inl same) ↦ absurd (first.before n (omega arith) (omega (arith, lt, same)) (i, at_i, w))
  | inr (inr more) ↦ absurd (none k (omega (arith, more)) (j, at_j, v))
]

module _ (p : Tables) (t a b : ℕ) (first : IsFirstWriter p t 0 a) (second : IsFirstWriter p t (a + 1) b) (none : (k : ℕ) → b + 1 ≤ k → Writes p k t → ⊥) where
  is_one : (k : ℕ) → Writes p k t → (k ≡ a) ⊎ (k ≡ b)
  is_one k w = elim (order k a) [
    | inl less ↦ absurd (first.before k (omega arith) less w)
    | inr (inl same) ↦ inl same
    | inr (inr more) ↦ elim (order k b) [
      | inl less ↦ absurd (second.before k (omega (arith, more)) less w)
      | inr (inl same) ↦ inr same
      | inr (inr past) ↦ absurd (none k (omega (arith, past)) w)
    ]
  ]

  pub two_write : (c : Bool) (ms : List ModuleInfo) → (IsTrue c ↔ ArePartnersIn ms a b) → ms ≡ p.modules → c ≡ true → AreAllRelated p t
  two_write c ms iff same yes_ n k lt i j at_i at_j w v = elim (is_one n (i, at_i, w)) [
    | inl n_a ↦ elim (is_one k (j, at_j, v)) [
      | inl k_a ↦ absurd (omega (arith, lt, n_a, k_a))
      | inr k_b ↦ subst (λ x. ArePartnersIn p.modules x k) (sym n_a)
          (subst (λ x. ArePartnersIn p.modules a x) (sym k_b) (subst (λ l. ArePartnersIn l a b) same (iff.0 (subst IsTrue (sym yes_) refl))))
    ]
    | inr n_b ↦ elim (is_one k (j, at_j, v)) [
      | inl k_a ↦ absurd (omega (arith, lt, n_b, k_a, second.after))
      | inr k_b ↦ absurd (omega (arith, lt, n_b, k_b))
    ]
  ]
