-- The grain at which nothing was left of a safe region, and the grids that have it.
use Rattle.std.specs.Prelude.{◌≡◌, ◌⊎◌, ℕ, ◌+◌, ◌^◌, ◌<◌, ◌≤◌, ℤ, pos, List, length}
use Rattle.std.specs.List.{All}
use Rattle.sot_lists.specs.Places.{At}
use Rattle.sot_box.specs.Sides.{Side}
use Rattle.sot_box.specs.Regions.{IsHull}
use Rattle.sot_lang.specs.declared.tables.ModuleInfo.{ModuleInfo}
use Rattle.sot_lang.specs.Tables.{Tables}
use Rattle.sot_atoms.specs.declared.axis.Axis.{Axis}
use Rattle.sot_atoms.specs.Grids.{Cut, IsCut, CutsHull}
use Rattle.sot_invariant_atoms.specs.Closed.{HasNoClosedSet}

-- one unit of each state variable: no atom has more than one point
abbrev pub IsUnitGrain : List ℤ → Type 0
IsUnitGrain grain = All (λ d. d ≡ pos 1) grain

-- a side's grain as it is told: that of its axis, or the greatest number where that is longer
abbrev pub IsToldGrain : Cut → ℕ → ℤ → Type 0
IsToldGrain grid side grain =
    (k : ℕ) (x : Axis) → 4 ≤ k + grid.width → At grid.axes k x → x.side ≡ side
    → (grain ≡ pos (2 ^ x.shift))
    ⊎ ((grain ≡ pos 9223372036854775807) × (9223372036854775807 < 2 ^ x.shift))

-- the grain of each side of a grid
pub record AreToldGrains (grid : Cut) (grains : List ℤ) : Type 0 where
  pub count : length grains ≡ grid.width
  pub each : (side : ℕ) (g : ℤ) → At grains side g → IsToldGrain grid side g

-- the grains of the first sides, so many of them
abbrev pub TellGrains : Cut → ℕ → List ℤ → Type 0
TellGrains grid count grains =
    (side : ℕ) (g : ℤ) → side < count → At grains side g → IsToldGrain grid side g

-- a grid of these grains over the hull of a module's safe region
pub record IsGridAt (a : ModuleInfo) (told : List ℤ) (grid : Cut) : Type 0 where
  pub hull : List Side
  pub is : IsHull a.safe.boxes hull
  pub cut : IsCut grid.width grid.last grid.axes
  pub cuts : CutsHull grid hull
  pub width : length hull ≡ grid.width
  pub grains : AreToldGrains grid told

-- no closed set of atoms of these grains lies in the module's safe region
abbrev pub HasNoClosedSetAt : Tables → ℕ → ModuleInfo → List ℤ → Type 0
HasNoClosedSetAt p jitter a grains =
    (grid : Cut) × IsGridAt a grains grid × HasNoClosedSet p jitter a grid
