-- Topics that two nodes write.
use Rattle.std.specs.Prelude.{ℕ, ◌≡◌, ◌<◌, ◌≤◌, ◌⊎◌, List}
use Rattle.sot_lang.specs.declared.tables.NodeInfo.{NodeInfo}
use Rattle.sot_lang.specs.declared.tables.ModuleInfo.{ModuleInfo}
use Rattle.sot_lang.specs.Tables.{Tables}
use Rattle.sot_lists.specs.Places.{At}
use Rattle.sot_tube.specs.Topics.{WritesTopic}
use Rattle.sot_tube.specs.Composition.{ArePartners}
use Rattle.sot_tube.specs.Verdict.{ShareOutput}

-- n and n' are the two nodes of this module, in either order
abbrev pub ArePair : ModuleInfo → ℕ → ℕ → Type 0
ArePair a n n' = ((a.ac ≡ n) × (a.sc ≡ n')) ⊎ ((a.sc ≡ n) × (a.ac ≡ n'))

-- n and n' are the two nodes of some module of a list
abbrev pub ArePartnersIn : List ModuleInfo → ℕ → ℕ → Type 0
ArePartnersIn ms n n' = (m : ℕ) × (a : ModuleInfo) × At ms m a × ArePair a n n'

-- the node at place n writes topic t
abbrev pub Writes : Tables → ℕ → ℕ → Type 0
Writes p n t = (info : NodeInfo) × At p.nodes n info × WritesTopic p info t

-- the first node from a place on that writes topic t
pub record IsFirstWriter (p : Tables) (t from k : ℕ) : Type 0 where
  pub after : from ≤ k
  pub writes : Writes p k t
  pub before : (i : ℕ) → from ≤ i → i < k → Writes p i t → ⊥

-- if both nodes write topic t, they are the two nodes of a module
abbrev pub AreRelated : Tables → ℕ → ℕ → ℕ → Type 0
AreRelated p t n n' =
    (a b : NodeInfo) → At p.nodes n a → At p.nodes n' b → WritesTopic p a t → WritesTopic p b t
    → ArePartners p n n'

abbrev pub AreAllRelated : Tables → ℕ → Type 0
AreAllRelated p t = (n n' : ℕ) → n < n' → AreRelated p t n n'

-- the first node behind n that shares topic t with it without being its partner
pub record IsStranger (p : Tables) (t n k : ℕ) : Type 0 where
  pub behind : n < k
  pub shares : ShareOutput p t n k
  pub before : (i : ℕ) → n < i → i < k → AreRelated p t n i

-- the first two nodes that share topic t so
pub record AreFirstWriters (p : Tables) (t n k : ℕ) : Type 0 where
  pub first : (i j : ℕ) → i < n → i < j → AreRelated p t i j
  pub stranger : IsStranger p t n k
