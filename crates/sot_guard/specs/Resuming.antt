-- Which plants the commands in force hold safe until their modules' safe nodes fire, and how trust
-- in the models comes back.
use Rattle.std.specs.Prelude.{ℕ, ◌<◌, true, false, ◌≡◌, ◌↔◌}
use Rattle.sot_lists.specs.Places.{At}
use Rattle.sot_box.specs.Boxes.{point_box}
use Rattle.sot_calendar.specs.Due.{IsDue, IsUntil}
use Rattle.sot_lang.specs.declared.tables.PlantInfo.{PlantInfo}
use Rattle.sot_lang.specs.declared.tables.NodeInfo.{NodeInfo}
use Rattle.sot_lang.specs.declared.tables.ModuleInfo.{ModuleInfo}
use Rattle.sot_lang.specs.Tables.{Tables}
use Rattle.sot_tube.specs.Tubes.{TubeInside}
use Rattle.sot_world.specs.declared.mode.Mode.TheVariants.{Sc}
use Rattle.sot_world.specs.Configurations.{Configuration, is_left, is_left_dm, mode_of, point_of}
use Rattle.sot_world.specs.Configurations.{commands, IsSized}
use Rattle.sot_law_observed_runs.specs.Tubes.{KeepsTubes}
use Rattle.sot_guard.specs.Guarding.{Guarding}

-- node n surely fires within q ticks
abbrev pub FiresWithin : Tables → ℕ → Configuration → ℕ → ℕ → Type 0
FiresWithin p jitter C n q =
    (node : NodeInfo) × At p.nodes n node
    × IsUntil jitter (is_left C n) node.period node.offset C.time q

-- with the commands in force the tube from the point of a module's plant is inside the module's safe
-- region for q ticks
abbrev pub HoldsFor : Tables → Configuration → ModuleInfo → PlantInfo → ℕ → Type 0
HoldsFor p C a plant q =
    TubeInside p plant (point_box (commands plant C)) a.safe.boxes
    (point_box (point_of C a.plant)) q

-- the commands in force hold the module's plant safe until its safe node fires
abbrev pub IsHeldSafe : Tables → ℕ → Configuration → ℕ → Type 0
IsHeldSafe p jitter C m =
    (a : ModuleInfo) (plant : PlantInfo) (q : ℕ) → At p.modules m a → At p.plants a.plant plant
    → FiresWithin p jitter C a.sc q → HoldsFor p C a plant q

-- they do not
pub record IsUnheld (p : Tables) (jitter : ℕ) (C : Configuration) (m : ℕ) : Type 0 where
  pub module_info : ModuleInfo
  pub plant : PlantInfo
  pub ticks : ℕ
  pub is : At p.modules m module_info
  pub plant_is : At p.plants module_info.plant plant
  pub fires : FiresWithin p jitter C module_info.sc ticks
  pub leaves : HoldsFor p C module_info plant ticks → ⊥

-- every module's plant is held safe
abbrev pub AreHeldSafe : Tables → ℕ → Configuration → Type 0
AreHeldSafe p jitter C = (m : ℕ) → IsHeldSafe p jitter C m

-- the first module whose plant is not held safe
pub record IsFirstUnsafe (p : Tables) (jitter : ℕ) (C : Configuration) (m : ℕ) : Type 0 where
  pub unheld : IsUnheld p jitter C m
  pub before : (k : ℕ) → k < m → IsHeldSafe p jitter C k

-- what is left to fire and to be decided is what is due now, and nothing else changes
pub record LeavesWhatIsDue (p : Tables) (C D : Configuration) : Type 0 where
  pub left : (n : ℕ) (node : NodeInfo) → At p.nodes n node
      → (is_left D n ≡ true) ↔ IsDue node.period node.offset C.time
  pub left_dm : (m : ℕ) (a : ModuleInfo) → At p.modules m a
      → (is_left_dm D m ≡ true) ↔ IsDue a.period a.offset C.time
  pub sizes : IsSized p D
  pub rest : D ≡ record C { left = D.left; left_dm = D.left_dm }

-- the models are trusted again: what is due is left, every module's plant is held safe, and tubes
-- are kept; each module is in mode Sc as before
pub record RegainsTrust (old new : Guarding) : Type 0 where
  pub was : old.trusted ≡ false
  pub is : new.trusted ≡ true
  pub accepted : new.accepted ≡ old.accepted
  pub leaves : LeavesWhatIsDue old.accepted.program old.at new.at
  pub modes : (m : ℕ) → mode_of new.at m ≡ Sc
  pub held : AreHeldSafe old.accepted.program old.accepted.cert.jitter new.at
  pub tubes : KeepsTubes old.accepted.program old.accepted.cert.jitter new.at

-- with what is due left, module m is the first whose plant is not held safe
pub record StaysUnsafe (g : Guarding) (m : ℕ) : Type 0 where
  pub due : Configuration
  pub leaves : LeavesWhatIsDue g.accepted.program g.at due
  pub first : IsFirstUnsafe g.accepted.program g.accepted.cert.jitter due m
