-- Laws on summaries.
use Rattle.std.specs.Prelude.{◌≡◌, ◌↔◌, ℕ, ℤ, List, length, IsTrue}
use Rattle.sot_lang.specs.Tables.{Tables}
use Rattle.sot_lang.specs.TableRules.{MeetsTableRules}
use Rattle.sot_box.specs.Sides.{Side}
use Rattle.sot_box.specs.Regions.{IsInRegion}
use Rattle.sot_world.specs.HistoryEntry.{Logged}
use Rattle.sot_world.specs.Headline.{EveryRunIsSafe}
use Rattle.sot_world.specs.Opens.{StartInside}
use Rattle.sot_flight.specs.Plans.{Plan}
use Rattle.sot_board.specs.Flown.{FlownBy}
use Rattle.sot_summary.specs.Outside.{is_in_region}
use Rattle.sot_summary.specs.Summaries.{summary_of}

-- the test of a point says whether the point is in the region
abbrev pub RegionTestsAreExact : Type 0
RegionTestsAreExact =
    (region : List (List Side)) (s : List ℤ) → IsTrue (is_in_region region s) ↔ IsInRegion region s

-- where every run is safe and all plants start in their modules' safer regions, no tick of a whole
-- history leaves a plant outside
abbrev pub SafeFlightsStayInside : Type 0
SafeFlightsStayInside =
    (p : Tables) (jitter : ℕ) (f : Plan) (entries : List Logged) → MeetsTableRules p
    → EveryRunIsSafe p jitter → StartInside p f.start (length p.modules)
    → FlownBy p jitter f entries → (summary_of p f entries).outside ≡ 0

-- a whole history has as many ticks as the horizon
abbrev pub WholeFlightsTickToTheHorizon : Type 0
WholeFlightsTickToTheHorizon =
    (p : Tables) (jitter : ℕ) (f : Plan) (entries : List Logged) → FlownBy p jitter f entries
    → (summary_of p f entries).ticks ≡ f.horizon
