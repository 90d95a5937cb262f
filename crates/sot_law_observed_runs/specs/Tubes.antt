-- What holds in every configuration of an observed run.
use Rattle.std.specs.Prelude.{ℕ, ◌≡◌, ◌+◌}
use Rattle.sot_lists.specs.Places.{At}
use Rattle.sot_box.specs.Boxes.{point_box}
use Rattle.sot_calendar.specs.Due.{IsUntil}
use Rattle.sot_lang.specs.declared.tables.PlantInfo.{PlantInfo}
use Rattle.sot_lang.specs.declared.tables.NodeInfo.{NodeInfo}
use Rattle.sot_lang.specs.declared.tables.ModuleInfo.{ModuleInfo}
use Rattle.sot_lang.specs.Tables.{Tables}
use Rattle.sot_tube.specs.Tubes.{TubeInside, AnyTubeInside}
use Rattle.sot_world.specs.declared.mode.Mode.TheVariants.{Ac, Sc}
use Rattle.sot_world.specs.Configurations.{Configuration, is_left, is_left_dm, mode_of, point_of}
use Rattle.sot_world.specs.Configurations.{commands}
use Rattle.sot_world.specs.Invariant.{KeepsInvariant}

-- the invariant of runs, and beside it for each module the same by boxes: in mode Ac the tube of
-- any commands is in the safe region until a period after its next decision, and in mode Sc the
-- tube of the present commands is until its safe node fires next
pub record KeepsTubes (p : Tables) (jitter : ℕ) (C : Configuration) : Type 0 where
  pub keeps : KeepsInvariant p jitter C
  pub ac : (m : ℕ) (a : ModuleInfo) (plant : PlantInfo) (r : ℕ) → At p.modules m a
      → At p.plants a.plant plant → mode_of C m ≡ Ac
      → IsUntil jitter (is_left_dm C m) a.period a.offset C.time r
      → AnyTubeInside p plant a.safe.boxes (point_box (point_of C a.plant))
      (r + a.period + jitter)
  pub sc : (m : ℕ) (a : ModuleInfo) (plant : PlantInfo) (node : NodeInfo) (q : ℕ)
      → At p.modules m a → At p.plants a.plant plant → At p.nodes a.sc node → mode_of C m ≡ Sc
      → IsUntil jitter (is_left C a.sc) node.period node.offset C.time q
      → TubeInside p plant (point_box (commands plant C)) a.safe.boxes
      (point_box (point_of C a.plant)) q
