-- A run of the running example, and what the main theorem says of it.
use Rattle.std.proofs.Common.{pos, refl, [], ◌∷◌}
use Rattle.std.specs.Global.{Global}
use Rattle.sot_lang.specs.Line.{line, line_cert}
use Rattle.sot_lang.proofs.LineRules.{line_typed}
use Rattle.sot_tube.proofs.LineCertified.{line_is_certified}
use Rattle.sot_world.specs.Runs.{Run}
use Rattle.sot_world.specs.Headline.{IsSafeNow, EveryRunIsSafe}
use Rattle.sot_world.specs.Examples.{at_opening, ticked, line_events, line_configurations}
use Rattle.sot_world.proofs.Main.{certified_runs_are_safe}
use Rattle.sot_world.proofs.LineSteps.{opens, safer, decides, takes_2, idle, ticks}

module _ (g : Global) where
  pub every_run : EveryRunIsSafe (line g) 0
  every_run = certified_runs_are_safe (line g) 0 (line_cert g) (line_typed g) (line_is_certified g)

  pub run : Run (line g) 0 at_opening line_events line_configurations
  run = (decides g, (takes_2 g, (idle g, (ticks g, tt))))

  pub end_is_safe : IsSafeNow (line g) 0 ticked
  end_is_safe = every_run ((pos 0 ∷ []) ∷ []) at_opening line_events line_configurations (opens g) (safer g) run 4 ticked refl
