-- Which part each node plays in its module.
use Rattle.std.specs.Prelude.{ℕ, ◌≡◌, ◌⊎◌, List, length}
use Rattle.sot_lang.specs.declared.tables.ModuleInfo.{ModuleInfo}
use Rattle.sot_lang.specs.Tables.{Tables}
use Rattle.sot_lists.specs.Places.{At}
use Rattle.sot_world.specs.declared.role.Role.{Role}
use Rattle.sot_world.specs.declared.role.Role.TheVariants.{Free, Advanced, Safe}

-- a free node is of no module, and any other is the advanced or the safe node of this module
abbrev pub IsRole : List ModuleInfo → ℕ → Role → Type 0
IsRole modules n Free = (m : ℕ) (a : ModuleInfo) → At modules m a → (a.ac ≡ n) ⊎ (a.sc ≡ n) → ⊥
IsRole modules n (Advanced m) = (a : ModuleInfo) × At modules m a × (a.ac ≡ n)
IsRole modules n (Safe m) = (a : ModuleInfo) × At modules m a × (a.sc ≡ n)

-- the role of each node
pub record AreRoles (p : Tables) (roles : List Role) : Type 0 where
  pub each : length roles ≡ length p.nodes
  pub are : (n : ℕ) (role : Role) → At roles n role → IsRole p.modules n role
