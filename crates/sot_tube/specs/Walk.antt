-- Between the crate's own functions: how a walk along a tube stands after some ticks.
use Rattle.std.specs.Prelude.{ℕ, ◌-◌, List}
use Rattle.sot_lang.specs.declared.tables.PlantInfo.{PlantInfo}
use Rattle.sot_box.specs.Sides.{Side}
use Rattle.sot_tube.specs.Tubes.{StaysInside}
use Rattle.sot_tube.specs.Leaves.{Leave, Leaves}

-- from the box of tick n on the tube stays inside or leaves as it does from its first box
pub record IsWalked (plant : PlantInfo) (commands seen : List Side) (region : List (List Side))
    (first : List Side) (k : ℕ) (box : List Side) (n : ℕ) : Type 0 where
  pub stays : StaysInside plant commands seen region box (k - n)
      → StaysInside plant commands seen region first k
  pub leaves : (leave : Leave) → Leaves plant commands seen region box n (k - n) leave
      → Leaves plant commands seen region first 0 k leave
