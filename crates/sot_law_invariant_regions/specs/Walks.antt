-- Tubes from narrower boxes.
use Rattle.std.specs.Prelude.{ℕ, ℤ, List}
use Rattle.sot_lang.specs.declared.tables.PlantInfo.{PlantInfo}
use Rattle.sot_box.specs.Sides.{Side}
use Rattle.sot_iv.specs.Monotony.{AreNarrower}
use Rattle.sot_law_invariant_regions.specs.Following.{StaysAmong}

-- from some box in this one, with some commands in these, the tube of k ticks stays among the
-- points
pub record SomeTubeStays (Points : List ℤ → Type 0) (plant : PlantInfo)
    (commands seen box : List Side) (k : ℕ) : Type 0 where
  pub first : List Side
  pub held : List Side
  pub in_box : AreNarrower first box
  pub in_commands : AreNarrower held commands
  pub stays : StaysAmong Points plant held seen first k
