-- What contracts see of a guard.
use Rattle.std.specs.Prelude.{ℕ, ◌≤◌, Bool, true, false, ◌≡◌}
use Rattle.sot_lists.specs.Places.{At}
use Rattle.sot_box.specs.Boxes.{IsWithin}
use Rattle.sot_lang.specs.declared.tables.NodeInfo.{NodeInfo}
use Rattle.sot_lang.specs.Ranges.{scalar_ranges, local_ranges}
use Rattle.sot_lang.specs.TableRules.{MeetsTableRules}
use Rattle.sot_tube.specs.Admitted.{Admitted}
use Rattle.sot_tube.specs.Certified.{IsWellCertified}
use Rattle.sot_world.specs.declared.mode.Mode.TheVariants.{Sc}
use Rattle.sot_world.specs.Configurations.{Configuration, IsSized, mode_of, locals_of}
use Rattle.sot_world.specs.Changes.{ArePoints}
use Rattle.sot_law_observed_runs.specs.Tubes.{KeepsTubes}

-- a guard goes on until this time
abbrev pub last_time : ℕ
last_time = 1000000000000

-- an accepted program, whether its models are trusted, and the configuration that the mission is in
pub record Guarding : Type 0 where
  pub accepted : Admitted
  pub trusted : Bool
  pub at : Configuration

-- what the type keeps: numbers in their ranges; while the models are trusted, tubes; and while they
-- are not, every module is in mode Sc
pub record IsGuarding (a : Admitted) (trusted : Bool) (C : Configuration) : Type 0 where
  pub rules : MeetsTableRules a.program
  pub certified : IsWellCertified a.program a.cert.jitter a.cert
  pub time : C.time ≤ last_time
  pub scalars : IsWithin (scalar_ranges a.program) C.scalars
  pub locals : (n : ℕ) (node : NodeInfo) → At a.program.nodes n node
      → IsWithin (local_ranges node) (locals_of C n)
  pub sizes : IsSized a.program C
  pub points : ArePoints a.program C.points
  pub tubes : trusted ≡ true → KeepsTubes a.program a.cert.jitter C
  pub safe : trusted ≡ false → (m : ℕ) → mode_of C m ≡ Sc
