-- The moments that a history tells are those of its run.
use Rattle.std.specs.Prelude.{ℕ, ℤ, List, ◌≡◌, map}
use Rattle.sot_lang.specs.Tables.{Tables}
use Rattle.sot_lang.specs.TableRules.{MeetsTableRules}
use Rattle.sot_world.specs.Configurations.{Configuration}
use Rattle.sot_world.specs.HistoryEntry.{Logged}
use Rattle.sot_law_flights.specs.Laws.{IsRunOf}
use Rattle.sot_history_state.specs.Scenes.{scene_of}
use Rattle.sot_history_state.specs.Laws.{moments_of}
use Rattle.sot_monitor.specs.Moments.{number_in, moments_told}

-- each moment is what the configuration there shows: those just before each tick, and the last one
abbrev pub MomentsAreTheRuns : Type 0
MomentsAreTheRuns =
    (p : Tables) (jitter : ℕ) (start : List (List ℤ)) (entries : List Logged) (Q : Configuration)
    (run : IsRunOf p jitter start entries Q) → MeetsTableRules p
    → moments_told p start entries
    ≡ map (λ C. number_in (scene_of C)) (moments_of run.C run.events run.Ds)
