-- The scenes that a history tells are those of its run.
use Rattle.std.specs.Prelude.{ℕ, ℤ, List, [], ◌∷◌, ◌≡◌, take, map}
use Rattle.sot_lists.specs.Places.{At}
use Rattle.sot_lang.specs.Tables.{Tables}
use Rattle.sot_lang.specs.TableRules.{MeetsTableRules}
use Rattle.sot_world.specs.Configurations.{Configuration}
use Rattle.sot_world.specs.Steps.{Event, Input, Code, Guest, Decide, Tick}
use Rattle.sot_world.specs.HistoryEntry.{Logged}
use Rattle.sot_law_flights.specs.Laws.{IsRunOf}
use Rattle.sot_world.specs.Opens.{AreStarts}
use Rattle.sot_trace.specs.Fitting.{FitsEntry}
use Rattle.sot_history_state.specs.Scenes.{Scene, scene_of, opening, after, scene_after, moments}
use Rattle.sot_history_state.specs.Scenes.{IsSceneOf}

-- moment i of a run: the configuration just before the tick at time i, and the last one
abbrev pub moments_of : Configuration → List Event → List Configuration → List Configuration
moments_of C [] Ds = C ∷ []
moments_of C (e ∷ es) [] = C ∷ []
moments_of C (Tick noise ∷ es) (D ∷ Ds) = C ∷ moments_of D es Ds
moments_of C (Input topic value ∷ es) (D ∷ Ds) = moments_of D es Ds
moments_of C (Code n ∷ es) (D ∷ Ds) = moments_of D es Ds
moments_of C (Guest n draft ∷ es) (D ∷ Ds) = moments_of D es Ds
moments_of C (Decide m ∷ es) (D ∷ Ds) = moments_of D es Ds

-- in each run, the scene after the first i entries is what configuration i shows, and the moments
-- are those of the run
abbrev pub ScenesAreTheRuns : Type 0
ScenesAreTheRuns =
    (p : Tables) (jitter : ℕ) (start : List (List ℤ)) (entries : List Logged) (Q : Configuration)
    (run : IsRunOf p jitter start entries Q) → MeetsTableRules p
    → ((i : ℕ) (D : Configuration) → At (run.C ∷ run.Ds) i D
    → scene_of D ≡ scene_after p (opening p start) (take i entries))
    × (map scene_of (moments_of run.C run.events run.Ds) ≡ moments p (opening p start) entries)

-- an opening is a scene of the program, and stays one by each entry that fits
abbrev pub ScenesKeepTheirSizes : Type 0
ScenesKeepTheirSizes =
    (p : Tables) → ((start : List (List ℤ)) → AreStarts p start → IsSceneOf p (opening p start))
    × ((e : Logged) (s : Scene) → FitsEntry p e → IsSceneOf p s → IsSceneOf p (after p e s))
