-- Where a mission beside observed plants begins, at any time.
use Rattle.std.specs.Prelude.{ℕ, ℤ, true, List, [], ◌≡◌, ◌↔◌, length, map}
use Rattle.sot_lists.specs.Places.{At}
use Rattle.sot_calendar.specs.Due.{IsDue}
use Rattle.sot_lang.specs.declared.cert.Cert.{Cert}
use Rattle.sot_lang.specs.declared.tables.PlantInfo.{PlantInfo}
use Rattle.sot_lang.specs.declared.tables.NodeInfo.{NodeInfo}
use Rattle.sot_lang.specs.declared.tables.ModuleInfo.{ModuleInfo}
use Rattle.sot_lang.specs.Tables.{Tables}
use Rattle.sot_lang.specs.TableRules.{MeetsTableRules}
use Rattle.sot_tube.specs.Certified.{IsWellCertified}
use Rattle.sot_world.specs.declared.mode.Mode.TheVariants.{Sc}
use Rattle.sot_world.specs.Configurations.{Configuration, is_left, is_left_dm, point_of}
use Rattle.sot_world.specs.Configurations.{IsSized, IsOpening, IsSafer}
use Rattle.sot_law_observed_runs.specs.Tubes.{KeepsTubes}
use Rattle.sot_guard.specs.declared.begin_fail.BeginFail.{BeginFail}
use Rattle.sot_guard.specs.declared.begin_fail.BeginFail.TheVariants.{NotHeldSafe, Memory}
use Rattle.sot_guard.specs.Resuming.{AreHeldSafe, IsFirstUnsafe}

-- the opening at these points and at this time: all that is due then is left, and nothing else;
-- every mode is Sc, and scalars and locals are as declared
pub record IsOpeningAt (p : Tables) (time : ℕ) (start : List (List ℤ)) (C : Configuration)
    : Type 0 where
  pub time_is : C.time ≡ time
  pub left : (n : ℕ) (node : NodeInfo) → At p.nodes n node
      → (is_left C n ≡ true) ↔ IsDue node.period node.offset time
  pub left_dm : (m : ℕ) (a : ModuleInfo) → At p.modules m a
      → (is_left_dm C m ≡ true) ↔ IsDue a.period a.offset time
  pub modes : C.modes ≡ map (λ m. Sc) p.modules
  pub scalars : C.scalars ≡ map (λ i. i.init) p.scalars
  pub locals : C.locals ≡ map (λ n. map (λ l. l.init) n.locals.items) p.nodes
  pub points : C.points ≡ start
  pub sizes : IsSized p C
  pub widths : (k : ℕ) (plant : PlantInfo) → At p.plants k plant
      → length (point_of C k) ≡ length plant.states.items

-- this holds of an opening at these points and at this time
abbrev pub AtOpening : Tables → ℕ → List (List ℤ) → (Configuration → Type 0) → Type 0
AtOpening p time start P = (C : Configuration) × IsOpeningAt p time start C × P C

-- the first module whose plant is not held safe at the opening
abbrev pub IsStartUnsafe : Tables → ℕ → ℕ → List (List ℤ) → ℕ → Type 0
IsStartUnsafe p jitter time start m =
    AtOpening p time start (λ C. IsFirstUnsafe p jitter C m)

-- of a refused beginning that is no want of memory, this holds of the module
abbrev pub IfNotHeld : BeginFail → (ℕ → Type 0) → Type 0
IfNotHeld (NotHeldSafe m) P = P m
IfNotHeld Memory P = Unit {0}

-- at time 0 it is the opening that runs begin at
abbrev pub OpensRunsAtZero : Type 0
OpensRunsAtZero =
    (p : Tables) (start : List (List ℤ)) (C : Configuration)
    → IsOpeningAt p 0 start C ↔ IsOpening p start C

-- an opening in the safer regions is held safe, at whatever time
abbrev pub SaferStartsAreHeldSafe : Type 0
SaferStartsAreHeldSafe =
    (p : Tables) (cert : Cert) (time : ℕ) (start : List (List ℤ)) (C : Configuration)
    → MeetsTableRules p → IsWellCertified p cert.jitter cert → IsOpeningAt p time start C
    → IsSafer p C → AreHeldSafe p cert.jitter C

-- an opening that is held safe keeps tubes
abbrev pub HeldStartsKeepTubes : Type 0
HeldStartsKeepTubes =
    (p : Tables) (cert : Cert) (time : ℕ) (start : List (List ℤ)) (C : Configuration)
    → MeetsTableRules p → IsWellCertified p cert.jitter cert → IsOpeningAt p time start C
    → AreHeldSafe p cert.jitter C → KeepsTubes p cert.jitter C
