-- The histories of a flight and the runs of its program.
use Rattle.std.specs.Prelude.{ℕ, ℤ, List, [], ◌∷◌, ◌++◌, length}
use Rattle.sot_lists.specs.Places.{At}
use Rattle.sot_lang.specs.Tables.{Tables}
use Rattle.sot_world.specs.Configurations.{Configuration, IsOpening}
use Rattle.sot_world.specs.Steps.{Event}
use Rattle.sot_world.specs.Runs.{Run}
use Rattle.sot_world.specs.Outcomes.{Recorded, Records}
use Rattle.sot_world.specs.HistoryEntry.{Logged}
use Rattle.sot_world.specs.Headline.{EveryRunIsSafe, IsSafeNow}
use Rattle.sot_world.specs.Opens.{StartInside}
use Rattle.sot_flight.specs.Plans.{Plan}
use Rattle.sot_board.specs.Flown.{Position, Tells, FlownSoFar}

-- the entries tell, one by one, of these events and of the configurations after them
abbrev pub TellOf : Tables → Configuration → List Event → List Configuration → List Logged → Type 0
TellOf p C [] [] [] = Unit {0}
TellOf p C (e ∷ es) (D ∷ Ds) (x ∷ xs) =
    ((r : Recorded) × Records p C e D r × Tells C e r D x) × TellOf p D es Ds xs
TellOf p C [] [] (x ∷ xs) = ⊥
TellOf p C [] (D ∷ Ds) xs = ⊥
TellOf p C (e ∷ es) [] xs = ⊥
TellOf p C (e ∷ es) (D ∷ Ds) [] = ⊥

-- a run from the opening at these points, of which these entries tell, and which ends at Q
pub record IsRunOf (p : Tables) (jitter : ℕ) (start : List (List ℤ)) (entries : List Logged)
    (Q : Configuration) : Type 0 where
  pub C : Configuration
  pub events : List Event
  pub Ds : List Configuration
  pub opening : IsOpening p start C
  pub run : Run p jitter C events Ds
  pub told : TellOf p C events Ds entries
  pub last : At (C ∷ Ds) (length entries) Q

-- a history of a flight so far is a run from the opening at the flight's points, which ends where
-- the flight stands
abbrev pub HistoriesAreRuns : Type 0
HistoriesAreRuns =
    (p : Tables) (jitter : ℕ) (f : Plan) (entries : List Logged) (Q : Position)
    → FlownSoFar p jitter f entries Q → IsRunOf p jitter f.start entries Q.at

-- the first entries of a history are a history so far
abbrev pub BeginningsAreHistories : Type 0
BeginningsAreHistories =
    (p : Tables) (jitter : ℕ) (f : Plan) (xs ys : List Logged) (Q : Position)
    → FlownSoFar p jitter f (xs ++ ys) Q → (R : Position) × FlownSoFar p jitter f xs R

-- where every run is safe and all plants start in their modules' safer regions, each position of a
-- flight is safe
abbrev pub FlownPositionsAreSafe : Type 0
FlownPositionsAreSafe =
    (p : Tables) (jitter : ℕ) (f : Plan) (entries : List Logged) (Q : Position)
    → EveryRunIsSafe p jitter → StartInside p f.start (length p.modules)
    → FlownSoFar p jitter f entries Q → IsSafeNow p jitter Q.at
