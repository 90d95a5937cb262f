-- Laws on histories that go on.
use Rattle.std.specs.Prelude.{ℕ, ◌≡◌, List, [], ◌++◌, Option}
use Rattle.sot_lang.specs.Tables.{Tables}
use Rattle.sot_world.specs.HistoryEntry.{Logged}
use Rattle.sot_flight.specs.Plans.{Plan}
use Rattle.sot_board.specs.Flown.{Position, FlownSoFar, FlownBy}
use Rattle.sot_board.specs.Versions.{drafts_of}
use Rattle.sot_fly_worker.specs.Askings.{Asking}
use Rattle.sot_fly_worker.specs.Answers.{FitsFiring, Answered}

-- no history of a flight so far goes on from a whole one
abbrev pub WholeHistoriesEnd : Type 0
WholeHistoriesEnd =
    (p : Tables) (jitter : ℕ) (f : Plan) (history more : List Logged) (Q : Position)
    → FlownBy p jitter f history → FlownSoFar p jitter f (history ++ more) Q → more ≡ []

-- an asking that fits a firing fits it in each longer history
abbrev pub FitsStay : Type 0
FitsStay =
    (p : Tables) (jitter : ℕ) (f : Plan) (n : ℕ) (history more : List Logged) (k : ℕ) (one : Asking)
    → FitsFiring p jitter f n history k one → FitsFiring p jitter f n (history ++ more) k one

-- what is answered stays answered in a longer history in which the node does not fire again
abbrev pub AnswersStay : Type 0
AnswersStay =
    (p : Tables) (jitter : ℕ) (f : Plan) (n : ℕ) (history more : List Logged)
    (before after : Option (List Asking))
    → drafts_of n more ≡ [] → Answered p jitter f n history before after
    → Answered p jitter f n (history ++ more) before after
