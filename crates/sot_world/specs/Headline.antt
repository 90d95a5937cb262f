-- The main theorem's three parts.
use Rattle.std.specs.Prelude.{ℕ, ℤ, List, ◌∷◌, Ok, ◌≡◌}
use Rattle.sot_lang.specs.declared.act.Act.{Act}
use Rattle.sot_lang.specs.declared.cert.Cert.{Cert}
use Rattle.sot_lang.specs.declared.tables.PlantInfo.{PlantInfo}
use Rattle.sot_lang.specs.declared.tables.NodeInfo.{NodeInfo}
use Rattle.sot_lang.specs.declared.tables.ModuleInfo.{ModuleInfo}
use Rattle.sot_lang.specs.Tables.{Tables}
use Rattle.sot_lists.specs.Places.{At}
use Rattle.sot_box.specs.Boxes.{IsWithin}
use Rattle.sot_box.specs.Regions.{IsInRegion}
use Rattle.sot_lang.specs.Ranges.{bounds, local_ranges, write_ranges}
use Rattle.sot_lang.specs.Bodies.{Fired, execution}
use Rattle.sot_lang.specs.Ticks.{next_state, joined}
use Rattle.sot_lang.specs.Readings.{reading}
use Rattle.sot_lang.specs.TableRules.{IsCoded, IsTyped}
use Rattle.sot_tube.specs.Certified.{IsWellCertified}
use Rattle.sot_tube.specs.WellFormed.{IsWellFormed}
use Rattle.sot_world.specs.Configurations.{Configuration, locals_of, point_of, commands}
use Rattle.sot_world.specs.Configurations.{seen_points, IsOpening, IsSafer}
use Rattle.sot_world.specs.Steps.{Event, MayTick, Step}
use Rattle.sot_world.specs.Runs.{Run}
use Rattle.sot_world.specs.Invariant.{KeepsInvariant}

-- a configuration is safe: each module's plant is in the module's safe region, no coded node's body
-- traps now, whether it is due or enabled or not, and no tick that may come now traps, whatever the
-- disturbances in bounds
pub record IsSafeNow (p : Tables) (jitter : ℕ) (C : Configuration) : Type 0 where
  pub modules : (m : ℕ) (module_info : ModuleInfo) → At p.modules m module_info
      → IsInRegion module_info.safe.boxes (point_of C module_info.plant)
  pub bodies : (n : ℕ) (node : NodeInfo) (acts : List Act) → At p.nodes n node → IsCoded node acts
      → (fired : Fired) × (execution acts (local_ranges node) (write_ranges p node)
      (reading node C.scalars C.points) (locals_of C n) ≡ Ok fired)
  pub ticks : MayTick p jitter C → (k : ℕ) (plant : PlantInfo) (w : List ℤ) → At p.plants k plant
      → IsWithin (bounds plant) w → (s : List ℤ)
      × (next_state plant (point_of C k) (commands plant C) (joined (seen_points plant C)) w ≡ Ok s)

-- in every run from a safer opening each configuration has this property
abbrev pub InEveryRun : Tables → ℕ → (Configuration → Type 0) → Type 0
InEveryRun p jitter P =
    (start : List (List ℤ)) (C : Configuration) (events : List Event) (Ds : List Configuration)
    → IsOpening p start C → IsSafer p C → Run p jitter C events Ds →
    (i : ℕ) (D : Configuration) → At (C ∷ Ds) i D → P D

-- every run from a safer opening is safe in each of its configurations
abbrev pub EveryRunIsSafe : Tables → ℕ → Type 0
EveryRunIsSafe p jitter = InEveryRun p jitter (IsSafeNow p jitter)

-- in every run of a well-formed program from a safer opening, each configuration satisfies the
-- invariant, for all modules together
abbrev pub WellFormedRunsKeepInvariant : Type 0
WellFormedRunsKeepInvariant =
    (p : Tables) (jitter : ℕ) → IsTyped p → IsWellFormed p jitter
    → InEveryRun p jitter (KeepsInvariant p jitter)

-- a configuration of a well-formed program that satisfies the invariant is safe
abbrev pub InvariantIsSafe : Type 0
InvariantIsSafe =
    (p : Tables) (jitter : ℕ) (C : Configuration) → IsTyped p → IsWellFormed p jitter
    → KeepsInvariant p jitter C → IsSafeNow p jitter C

-- every run of a certified program from plants in their safer regions is safe
abbrev pub CertifiedRunsAreSafe : Type 0
CertifiedRunsAreSafe =
    (p : Tables) (jitter : ℕ) (cert : Cert) → IsTyped p → IsWellCertified p jitter cert
    → EveryRunIsSafe p jitter

-- the opening of a well-formed program with plants in their safer regions satisfies the invariant
abbrev pub OpeningsKeepInvariant : Type 0
OpeningsKeepInvariant =
    (p : Tables) (jitter : ℕ) (start : List (List ℤ)) (C : Configuration) → IsTyped p
    → IsWellFormed p jitter → IsOpening p start C → IsSafer p C → KeepsInvariant p jitter C

-- from any configuration that satisfies the invariant, reached or not, each step leads to one that
-- does
abbrev pub StepsKeepInvariant : Type 0
StepsKeepInvariant =
    (p : Tables) (jitter : ℕ) (C D : Configuration) (e : Event) → IsTyped p → IsWellFormed p jitter
    → KeepsInvariant p jitter C → Step p jitter C e D → KeepsInvariant p jitter D
