-- That something can always happen, and that time goes on.
use Rattle.std.specs.Prelude.{ℕ, ℤ, List, [], ◌∷◌, true, slice_index_or, ◌≡◌, ◌⊎◌, ◌≤◌, Option}
use Rattle.std.specs.Prelude.{length}
use Rattle.sot_lists.specs.Places.{At}
use Rattle.sot_box.specs.Boxes.{IsWithin}
use Rattle.sot_lang.specs.declared.tables.PlantInfo.{PlantInfo}
use Rattle.sot_lang.specs.declared.tables.NodeInfo.{NodeInfo}
use Rattle.sot_lang.specs.declared.tables.ModuleInfo.{ModuleInfo}
use Rattle.sot_lang.specs.Tables.{Tables}
use Rattle.sot_lang.specs.Ranges.{bounds}
use Rattle.sot_lang.specs.TableRules.{MeetsTableRules}
use Rattle.sot_calendar.specs.Due.{IsDeadline}
use Rattle.sot_tube.specs.WellFormed.{IsWellFormed}
use Rattle.sot_world.specs.Configurations.{Configuration, is_left, is_left_dm}
use Rattle.sot_world.specs.Steps.{Event, Code, Guest, Decide, Tick}
use Rattle.sot_world.specs.Runs.{Run}
use Rattle.sot_world.specs.Invariant.{KeepsInvariant}
use Rattle.sot_world.specs.Progress.{Happens}

-- disturbances of all plants, one list a plant, each in its bounds
pub record AreDisturbances (p : Tables) (noise : List (List ℤ)) : Type 0 where
  pub each : length noise ≡ length p.plants
  pub bounded : (k : ℕ) (plant : PlantInfo) → At p.plants k plant
      → IsWithin (bounds plant) (slice_index_or noise k [])

-- a node is left to fire at its deadline, and a decision is left at its deadline
pub record HoldsNode (p : Tables) (jitter : ℕ) (C : Configuration) (n : ℕ) : Type 0 where
  pub node : NodeInfo
  pub is : At p.nodes n node
  pub left : is_left C n ≡ true
  pub deadline : IsDeadline jitter node.period node.offset C.time

pub record HoldsDecision (p : Tables) (jitter : ℕ) (C : Configuration) (m : ℕ) : Type 0 where
  pub module_info : ModuleInfo
  pub is : At p.modules m module_info
  pub left : is_left_dm C m ≡ true
  pub deadline : IsDeadline jitter module_info.period module_info.offset C.time

-- it is not so that nothing happens
abbrev pub IsNoDeadEnd : Tables → ℕ → Configuration → Type 0
IsNoDeadEnd p jitter C = ((e : Event) → Happens p jitter C e → ⊥) → ⊥

-- there are disturbances in bounds; a tick comes with any of them, or something is left at its
-- deadline; each node that is left can fire, and it is not so that a decision that is left cannot
-- be made
pub record GoesOn (p : Tables) (jitter : ℕ) (C : Configuration) : Type 0 where
  pub disturbances : (noise : List (List ℤ)) × AreDisturbances p noise
  pub tick : ((noise : List (List ℤ)) → AreDisturbances p noise → Happens p jitter C (Tick noise))
      ⊎ (((n : ℕ) × HoldsNode p jitter C n) ⊎ ((m : ℕ) × HoldsDecision p jitter C m))
  pub node : (n : ℕ) → is_left C n ≡ true
      → Happens p jitter C (Code n) ⊎ ((draft : List (Option ℤ))
      × Happens p jitter C (Guest n draft))
  pub decision : (m : ℕ) → is_left_dm C m ≡ true → (Happens p jitter C (Decide m) → ⊥) → ⊥
  pub no_dead_end : IsNoDeadEnd p jitter C

-- each configuration of a well-formed program that satisfies the invariant goes on
abbrev pub SomethingAlwaysHappens : Type 0
SomethingAlwaysHappens =
    (p : Tables) (jitter : ℕ) (C : Configuration) → MeetsTableRules p → IsWellFormed p jitter
    → KeepsInvariant p jitter C → GoesOn p jitter C

-- a run from C comes to a configuration at this time
pub record ComesToTime (p : Tables) (jitter : ℕ) (C : Configuration) (time : ℕ) : Type 0 where
  pub events : List Event
  pub Ds : List Configuration
  pub run : Run p jitter C events Ds
  pub place : ℕ
  pub D : Configuration
  pub there : At (C ∷ Ds) place D
  pub is : D.time ≡ time

-- from each configuration of a well-formed program that satisfies the invariant it is not so that
-- no run comes to a later time
abbrev pub TimeGoesOn : Type 0
TimeGoesOn =
    (p : Tables) (jitter : ℕ) (C : Configuration) (time : ℕ) → MeetsTableRules p
    → IsWellFormed p jitter → KeepsInvariant p jitter C → C.time ≤ time →
    (ComesToTime p jitter C time → ⊥) → ⊥
