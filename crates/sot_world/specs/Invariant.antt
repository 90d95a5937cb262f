-- What holds in every configuration of a run.
use Rattle.std.specs.Prelude.{ℕ, true, ◌≡◌, ◌+◌}
use Rattle.sot_lang.specs.declared.tables.PlantInfo.{PlantInfo}
use Rattle.sot_lang.specs.declared.tables.NodeInfo.{NodeInfo}
use Rattle.sot_lang.specs.declared.tables.ModuleInfo.{ModuleInfo}
use Rattle.sot_lang.specs.Tables.{Tables}
use Rattle.sot_lists.specs.Places.{At}
use Rattle.sot_box.specs.Boxes.{IsWithin}
use Rattle.sot_lang.specs.Ranges.{scalar_ranges, local_ranges}
use Rattle.sot_lang.specs.Reach.{AnyReach, HeldReach, AllInside}
use Rattle.sot_calendar.specs.Due.{IsUntil, IsStillDue}
use Rattle.sot_world.specs.Configurations.{Configuration, is_left, is_left_dm, mode_of, locals_of}
use Rattle.sot_world.specs.Configurations.{point_of, commands, IsSized, Ac, Sc}

-- numbers in their ranges, nothing late, and for each module: in mode Ac any commands keep its
-- plant in the safe region until a period after its next decision, and in mode Sc the present
-- commands do until its safe node fires next
pub record KeepsInvariant (p : Tables) (jitter : ℕ) (C : Configuration) : Type 0 where
  pub scalars : IsWithin (scalar_ranges p) C.scalars
  pub locals : (n : ℕ) (node : NodeInfo) → At p.nodes n node
      → IsWithin (local_ranges node) (locals_of C n)
  pub sizes : IsSized p C
  pub due : (n : ℕ) (node : NodeInfo) → At p.nodes n node → is_left C n ≡ true
      → IsStillDue jitter node.period node.offset C.time
  pub due_dm : (m : ℕ) (module_info : ModuleInfo) → At p.modules m module_info
      → is_left_dm C m ≡ true → IsStillDue jitter module_info.period module_info.offset C.time
  pub ac : (m : ℕ) (module_info : ModuleInfo) (plant : PlantInfo) (r : ℕ)
      → At p.modules m module_info → At p.plants module_info.plant plant → mode_of C m ≡ Ac
      → IsUntil jitter (is_left_dm C m) module_info.period module_info.offset C.time r
      → AllInside (AnyReach p plant (point_of C module_info.plant)
      (r + module_info.period + jitter)) module_info.safe.boxes
  pub sc : (m : ℕ) (module_info : ModuleInfo) (plant : PlantInfo) (node : NodeInfo) (q : ℕ)
      → At p.modules m module_info → At p.plants module_info.plant plant
      → At p.nodes module_info.sc node → mode_of C m ≡ Sc
      → IsUntil jitter (is_left C module_info.sc) node.period node.offset C.time q
      → AllInside (HeldReach p plant (point_of C module_info.plant) (commands plant C) q)
      module_info.safe.boxes
