-- What an entry tells of a decision and of a firing.
use Rattle.std.specs.Prelude.{◌≡◌, ℕ, ℤ, Bool, Option, List, [], ◌∷◌, ◌++◌}
use Rattle.sot_lang.specs.Tables.{Tables}
use Rattle.sot_world.specs.Configurations.{mode_of}
use Rattle.sot_world.specs.declared.mode.Mode.{Mode}
use Rattle.sot_world.specs.Steps.{is_enabled}
use Rattle.sot_world.specs.HistoryEntry.{Logged, FireAt, DecideAt}
use Rattle.sot_flight.specs.Plans.{Plan}
use Rattle.sot_board.specs.Flown.{Position, FlownSoFar}

-- a decision tells the time and the mode that its module comes to
abbrev pub DecisionsTellModes : Type 0
DecisionsTellModes =
    (p : Tables) (jitter : ℕ) (f : Plan) (entries : List Logged) (time m : ℕ) (mode : Mode)
    (Q : Position)
    → FlownSoFar p jitter f (entries ++ DecideAt time m mode ∷ []) Q
    → (time ≡ Q.at.time) × (mode ≡ mode_of Q.at m)

-- a firing tells the time, and whether its node is enabled
abbrev pub FiringsTellWhetherEnabled : Type 0
FiringsTellWhetherEnabled =
    (p : Tables) (jitter : ℕ) (f : Plan) (entries : List Logged) (time n : ℕ)
    (draft : List (Option ℤ)) (enabled : Bool) (Q : Position)
    → FlownSoFar p jitter f (entries ++ FireAt time n draft enabled ∷ []) Q
    → (time ≡ Q.at.time) × (enabled ≡ is_enabled p Q.at n)
