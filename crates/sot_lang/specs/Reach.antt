-- The outcomes that a plant can come to.
use Rattle.std.specs.Prelude.{ℕ, zero, suc, ℤ, List, Ok, Err, ◌≡◌, ◌≤◌}
use Rattle.sot_lang.specs.declared.tables.PlantInfo.{PlantInfo}
use Rattle.sot_lang.specs.Tables.{Tables}
use Rattle.sot_box.specs.Sides.{Side}
use Rattle.sot_box.specs.Boxes.{IsWithin}
use Rattle.sot_box.specs.Regions.{IsInRegion}
use Rattle.sot_lang.specs.Ranges.{bounds, input_ranges}
use Rattle.sot_lang.specs.Values.{Outcome}
use Rattle.sot_lang.specs.Ticks.{next_state, joined}
use Rattle.sot_lang.specs.SafeRegions.{AreSafe}

-- one tick from the point s: some commands that are allowed, seen plants anywhere in their safe
-- regions, disturbances anywhere in their bounds
pub record TicksTo (p : Tables) (plant : PlantInfo) (Allowed : List ℤ → Type 0) (s : List ℤ)
    (o : Outcome (List ℤ)) : Type 0 where
  pub c : List ℤ
  pub seen : List (List ℤ)
  pub w : List ℤ
  pub allowed : Allowed c
  pub safe : AreSafe p.modules plant.sees.items seen
  pub bounded : IsWithin (bounds plant) w
  pub is : o ≡ next_state plant s c (joined seen) w

-- o is an outcome after exactly j ticks from s
abbrev pub ComesTo : (p : Tables) (plant : PlantInfo) (Allowed : List ℤ → Type 0) → List ℤ → ℕ
    → Outcome (List ℤ) → Type 0
ComesTo p plant Allowed s zero o = o ≡ Ok s
ComesTo p plant Allowed s (suc j) o =
    (s1 : List ℤ) × ComesTo p plant Allowed s j (Ok s1) × TicksTo p plant Allowed s1 o

-- o is an outcome after at most k ticks from s
abbrev pub Reach : (p : Tables) (plant : PlantInfo) (Allowed : List ℤ → Type 0) → List ℤ → ℕ
    → Outcome (List ℤ) → Type 0
Reach p plant Allowed s k o = (j : ℕ) × (j ≤ k) × ComesTo p plant Allowed s j o

-- with any commands in their types
abbrev pub AnyReach : Tables → PlantInfo → List ℤ → ℕ → Outcome (List ℤ) → Type 0
AnyReach p plant s k o = Reach p plant (IsWithin (input_ranges p plant)) s k o

-- with these commands throughout
abbrev pub HeldReach : Tables → PlantInfo → List ℤ → List ℤ → ℕ → Outcome (List ℤ) → Type 0
HeldReach p plant s c k o = Reach p plant (λ d. d ≡ c) s k o

-- a trap lies in no region
abbrev pub IsInside : List (List Side) → Outcome (List ℤ) → Type 0
IsInside region (Ok s) = IsInRegion region s
IsInside region (Err t) = ⊥

-- a set of outcomes is inside a region
abbrev pub AllInside : (Outcome (List ℤ) → Type 0) → List (List Side) → Type 0
AllInside set region = (o : Outcome (List ℤ)) → set o → IsInside region o
