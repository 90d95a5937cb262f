-- Nodes and plants that two modules share.
use Rattle.std.specs.Prelude.{ℕ, ◌≡◌, ◌<◌, ◌≤◌, List}
use Rattle.sot_lang.specs.declared.tables.ModuleInfo.{ModuleInfo}
use Rattle.sot_lists.specs.Places.{At}
use Rattle.sot_tube.specs.Composition.{UsesNode}
use Rattle.sot_compose.specs.declared.parts.Part.{Part}
use Rattle.sot_compose.specs.declared.parts.Part.TheVariants.{Node, Plant}

-- a module uses a part
abbrev pub Uses : Part → ModuleInfo → ℕ → Type 0
Uses Node a x = UsesNode a x
Uses Plant a x = a.plant ≡ x

-- modules m and m' use it
abbrev pub IsShared : Part → List ModuleInfo → ℕ → ℕ → ℕ → Type 0
IsShared part ms x m m' =
    (a b : ModuleInfo) × At ms m a × At ms m' b × Uses part a x × Uses part b x

-- no module of these places uses it
abbrev pub IsUnused : Part → List ModuleInfo → ℕ → ℕ → ℕ → Type 0
IsUnused part ms x from to =
    (m : ℕ) (a : ModuleInfo) → from ≤ m → m < to → At ms m a → Uses part a x → ⊥

-- the first module from a place on that uses it
pub record IsFirstUser (part : Part) (ms : List ModuleInfo) (x from m : ℕ) : Type 0 where
  pub info : ModuleInfo
  pub is : At ms m info
  pub after : from ≤ m
  pub uses : Uses part info x
  pub before : IsUnused part ms x from m

-- one module at most uses it
abbrev pub IsOfOneModule : Part → List ModuleInfo → ℕ → Type 0
IsOfOneModule part ms x = (m m' : ℕ) → m < m' → IsShared part ms x m m' → ⊥

-- m and m' are the first two modules that use it
pub record AreFirstUsers (part : Part) (ms : List ModuleInfo) (x m m' : ℕ) : Type 0 where
  pub before : m < m'
  pub shared : IsShared part ms x m m'
  pub first : (i k : ℕ) → i < m → IsShared part ms x i k → ⊥
  pub second : (k : ℕ) → m < k → k < m' → IsShared part ms x m k → ⊥
