-- How a tube leaves a region: at each tick, from 0 on, its box may have a point outside, and else
-- the step to the next tick may trap.
use Rattle.std.specs.Prelude.{ℕ, zero, suc, ℤ, List, Ok, Err, ◌≡◌, ◌⊎◌}
use Rattle.sot_iv.specs.declared.may_trap.MayTrap.{MayTrap}
pub use Rattle.sot_tube.specs.declared.leave.Leave.{Leave}
use Rattle.sot_tube.specs.declared.leave.Leave.TheVariants.{Out, Trap}
use Rattle.sot_lang.specs.declared.tables.PlantInfo.{PlantInfo}
use Rattle.sot_lang.specs.Tables.{Tables}
use Rattle.sot_box.specs.Sides.{Side}
use Rattle.sot_box.specs.Regions.{Covers, IsGap}
use Rattle.sot_lang.specs.Ranges.{input_ranges}
use Rattle.sot_lang.specs.SafeRegions.{AreHulls, joined_boxes}
use Rattle.sot_tube.specs.Tubes.{IsNextBox}

-- the box at tick n has a point outside the region, and this is the least one
abbrev pub GoesOut : List (List Side) → List Side → ℕ → Leave → Type 0
GoesOut region box n leave = (s : List ℤ) × IsGap region box s × (leave ≡ Out n box s)

-- the tube of k ticks from a box, which is its box at tick n, first leaves the region in this way
abbrev pub Leaves : PlantInfo → List Side → List Side → List (List Side) → List Side → ℕ → ℕ → Leave
    → Type 0
Leaves plant commands seen region box n zero leave = GoesOut region box n leave
Leaves plant commands seen region box n (suc k) leave =
    GoesOut region box n leave
    ⊎ (Covers region box × (t : MayTrap) × IsNextBox plant box commands seen (Err t)
    × (leave ≡ Trap n t.at))
    ⊎ (Covers region box × (b : List Side) × IsNextBox plant box commands seen (Ok b)
    × Leaves plant commands seen region b (suc n) k leave)

-- the tube with these commands from a box leaves a region in this way, within so many ticks
pub record TubeLeaves (p : Tables) (plant : PlantInfo) (commands : List Side)
    (region : List (List Side)) (box : List Side) (k : ℕ) (leave : Leave) : Type 0 where
  pub hulls : List (List Side)
  pub are : AreHulls p.modules plant.sees.items hulls
  pub leaves : Leaves plant commands (joined_boxes hulls) region box 0 k leave

-- the tube from a box, with commands anywhere in their types, leaves a region in this way, within
-- so many ticks
abbrev pub AnyTubeLeaves : Tables → PlantInfo → List (List Side) → List Side → ℕ → Leave → Type 0
AnyTubeLeaves p plant region box k leave =
    TubeLeaves p plant (input_ranges p plant) region box k leave
