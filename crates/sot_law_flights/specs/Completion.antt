-- Every history of a flight so far is the beginning of a whole one.
use Rattle.std.specs.Prelude.{◌≡◌, ℕ, ℤ, Bool, List, ◌++◌, Option, None, length, replicate}
use Rattle.sot_lists.specs.Places.{At}
use Rattle.sot_lang.specs.Tables.{Tables}
use Rattle.sot_lang.specs.TableRules.{MeetsTableRules}
use Rattle.sot_tube.specs.Admitted.{Admitted}
use Rattle.sot_tube.specs.Certified.{IsWellCertified}
use Rattle.sot_world.specs.HistoryEntry.{Logged, FireAt}
use Rattle.sot_world.specs.Opens.{StartInside}
use Rattle.sot_flight.specs.Plans.{Plan, Guest}
use Rattle.sot_flight.specs.Fits.{FitsFlight}
use Rattle.sot_board.specs.Flown.{Position, Leads, IsEnd, FlownSoFar, FlownBy}
use Rattle.sot_board.specs.Standing.{Standing, IsStanding}

-- in these entries no guest drafts anything: each firing of a guest's node has nothing in each of
-- its eight slots
abbrev pub GuestsDraftNothing : Plan → List Logged → Type 0
GuestsDraftNothing f entries =
    (i time n guest : ℕ) (draft : List (Option ℤ)) (enabled : Bool)
    → At entries i (FireAt time n draft enabled) → At f.crews n (Guest guest)
    → draft ≡ replicate 8 None

-- with these entries more, a history that led to P has come to the flight's end, and is whole
pub record Completes (p : Tables) (jitter : ℕ) (f : Plan) (entries : List Logged) (P : Position)
    (more : List Logged) : Type 0 where
  pub Q : Position
  pub leads : Leads p jitter f P more Q
  pub ended : IsEnd p f Q
  pub whole : FlownBy p jitter f (entries ++ more)
  pub silent : GuestsDraftNothing f more

-- wherever a flight stands, some entries more complete its history
abbrev pub FlightsCanBeCompleted : Type 0
FlightsCanBeCompleted =
    (b : Standing) → IsStanding b → (more : List Logged)
    × Completes b.accepted.program b.accepted.cert.jitter b.plan b.entries b.position more

-- in a flight of a certified program with all plants starting in their modules' safer regions, some
-- entries more complete each history so far
abbrev pub HistoriesCanBeCompleted : Type 0
HistoriesCanBeCompleted =
    (a : Admitted) (guests : ℕ) (f : Plan) (entries : List Logged) (P : Position)
    → MeetsTableRules a.program → IsWellCertified a.program a.cert.jitter a.cert
    → FitsFlight a.program guests f → StartInside a.program f.start (length a.program.modules)
    → FlownSoFar a.program a.cert.jitter f entries P
    → (more : List Logged) × Completes a.program a.cert.jitter f entries P more
