-- What the searches for shared things say of a program.
use Rattle.std.proofs.Common.{◌≡◌, ℕ, ◌<◌, inl, inr, ⊎_elim, List, length, refl, subst, arith, nat_lt, false}
use Rattle.std.proofs.lemmas.Bool.{cases_Bool}
use Rattle.std.proofs.lemmas.Bool.Decides.{nat_tests}
use Rattle.std.proofs.lemmas.Option.{slice_get_within}
use Rattle.sot_lang.specs.declared.tables.ModuleInfo.{ModuleInfo}
use Rattle.sot_lang.specs.Tables.{Tables}
use Rattle.sot_lang.specs.TableRules.{MeetsTableRules}
use Rattle.sot_lists.specs.Places.{At}
use Rattle.sot_tube.specs.Composition.{UsesNode, ArePartners, NoSharedNode, NoSharedOutput, NoSharedPlant}
use Rattle.sot_tube.specs.Checks.{IsLeastClash}
use Rattle.sot_tube.specs.Verdict.{ShareOutput}
use Rattle.sot_rta.proofs.Found.{ac_there, sc_there, topic_there}
use Rattle.sot_compose.specs.declared.parts.Part.{Part}
use Rattle.sot_compose.specs.declared.parts.Part.TheVariants.{Node, Plant}
use Rattle.sot_compose.specs.Parts.{IsShared, IsOfOneModule, AreFirstUsers}
use Rattle.sot_compose.specs.Outputs.{AreRelated, AreAllRelated, AreFirstWriters}

-- two numbers of which none is the lesser
same_unless : (m n : ℕ) → (m < n → ⊥) → (n < m → ⊥) → m ≡ n
same_unless m n f g = elim (cases_Bool (nat_lt m n)) [
  | inl less ↦ absurd (f (grind (arith, nat_tests)))
  | inr not_less ↦ elim (cases_Bool (nat_lt n m)) [
    | inl more ↦ absurd (g (grind (arith, nat_tests)))
    | inr not_more ↦ grind (arith, nat_tests)
  ]
]

-- the first users, in an equal list of modules
pub least_shared : (part : Part) (ms ns : List ModuleInfo) (x a b : ℕ) → ms ≡ ns → AreFirstUsers part ms x a b → ((y : ℕ) → y < x → IsOfOneModule part ms y)
    → IsLeastClash (IsShared part ns) x a b
least_shared part ms ns x a b same first earlier = subst (λ l. IsLeastClash (IsShared part l) x a b) same (record {
  before = first.before;
  clash = first.shared;
  least_x = λ y i k lt le s. earlier y lt i k le s;
  least_a = λ i k lt le s. first.first i k lt s;
  least_b = λ k lt gt s. first.second k gt lt s;
})

node_there : (p : Tables) → MeetsTableRules p → (m : ℕ) (a : ModuleInfo) (n : ℕ) → At p.modules m a → UsesNode a n → n < length p.nodes
node_there p rules m a n at (inl e) = subst (λ k. k < length p.nodes) e (ac_there p rules m a at)
node_there p rules m a n at (inr e) = subst (λ k. k < length p.nodes) e (sc_there p rules m a at)

pub no_shared_node : (p : Tables) → MeetsTableRules p → (ms : List ModuleInfo) → ms ≡ p.modules → ((x : ℕ) → x < length p.nodes → IsOfOneModule Node ms x)
    → NoSharedNode p
no_shared_node p rules ms same each m m' a b n at at' u u' =
    let one : IsOfOneModule Node p.modules n = subst (λ l. IsOfOneModule Node l n) same (each n (node_there p rules m a n at u)) in
    same_unless m m' (λ lt. one m m' lt (a, b, at, at', u, u')) (λ gt. one m' m gt (b, a, at', at, u', u))

plant_named : (p : Tables) → MeetsTableRules p → (m : ℕ) (a : ModuleInfo) → At p.modules m a → a.plant < length p.plants
plant_named p rules m a at = let plant = rules.typed.plant_is m a at in slice_get_within p.plants a.plant plant.0 plant.1

pub no_shared_plant : (p : Tables) → MeetsTableRules p → (ms : List ModuleInfo) → ms ≡ p.modules → ((x : ℕ) → x < length p.plants → IsOfOneModule Plant ms x)
    → NoSharedPlant p
no_shared_plant p rules ms same each m m' a b at at' e =
    let one : IsOfOneModule Plant p.modules b.plant = subst (λ l. IsOfOneModule Plant l b.plant) same (each b.plant (plant_named p rules m' b at')) in
    same_unless m m' (λ lt. one m m' lt (a, b, at, at', e, refl)) (λ gt. one m' m gt (b, a, at', at, refl, e))

unrelated : (p : Tables) (t n k : ℕ) → ShareOutput p t n k → AreRelated p t n k → ⊥
unrelated p t n k s r = s.6 (r s.0 s.1 s.2 s.3 s.4 s.5)

pub least_output : (p : Tables) (t n k : ℕ) → AreFirstWriters p t n k → ((u : ℕ) → u < t → AreAllRelated p u) → IsLeastClash (ShareOutput p) t n k
least_output p t n k first earlier = record {
  before = first.stranger.behind;
  clash = first.stranger.shares;
  least_x = λ y i j lt le s. unrelated p y i j s (earlier y lt i j le);
  least_a = λ i j lt le s. unrelated p t i j s (first.first i j lt le);
  least_b = λ j lt gt s. unrelated p t n j s (first.stranger.before j gt lt);
}

swapped : (p : Tables) (n k : ℕ) → ArePartners p k n → ArePartners p n k
swapped p n k h = (h.0, h.1, h.2, ⊎_elim (λ l. inr (l.1, l.0)) (λ r. inl (r.1, r.0)) h.3)

pub no_shared_output : (p : Tables) → MeetsTableRules p → ((t : ℕ) → t < length p.topics → AreAllRelated p t) → NoSharedOutput p
no_shared_output p rules each n k a b t at at' w w' ne =
    elim (cases_Bool (nat_lt n k)) [
      | inl less ↦ each t (topic_there p rules a.writes.items t w) n k (grind (arith, nat_tests)) a b at at' w w'
      | inr not_less ↦ swapped p n k (each t (topic_there p rules a.writes.items t w) k n (after not_less) b a at' at w' w)
    ]
  where
    after : nat_lt n k ≡ false → k < n
    after e = elim (cases_Bool (nat_lt k n)) [
      | inl less ↦ grind (arith, nat_tests)
      | inr not_less ↦ absurd (ne (grind (arith, nat_tests)))
    ]
