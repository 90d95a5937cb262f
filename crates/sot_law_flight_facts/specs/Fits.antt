-- Flights that fit their programs and flights that do not, and what they count.
use Rattle.std.specs.Prelude.{◌≡◌, ℕ, ℤ, pos, negsuc, Some, None, List, [], ◌∷◌}
use Rattle.std.specs.Global.{Global}
use Rattle.sot_lang.specs.Tables.{Tables}
use Rattle.sot_lang.specs.Line.{line, fast, slow, pos_plant}
use Rattle.sot_world.specs.Examples.{relay}
use Rattle.sot_flight.specs.declared.spread.Spread.TheVariants.{Anywhere, Ends}
use Rattle.sot_flight.specs.Plans.{StatedInput, Plan, Crew, Still, Listed, Drawn, Coded, Script, Wild}
use Rattle.sot_flight.specs.Plans.{Guest}
use Rattle.sot_flight.specs.Fits.{FitsInput, FitsSway, FitsCrew, FitsFlight}
use Rattle.sot_flight.specs.Counts.{event_count, number_count}
use Rattle.sot_board.specs.Examples.{relay_flight}

-- a program with nothing in it, flown so many ticks
abbrev pub nothing : Tables
nothing = record { topics = []; scalars = []; plants = []; nodes = []; modules = [] }

abbrev pub ticks_alone : ℕ → Plan
ticks_alone h =
    record { horizon = h; start = []; inputs = []; sways = []; crews = []; events = h; numbers = 0 }

-- 100,000 ticks fit, and one more does not
abbrev pub HorizonLimit : Type 0
HorizonLimit =
    FitsFlight nothing 0 (ticks_alone 100000) × (FitsFlight nothing 0 (ticks_alone 100001) → ⊥)

-- an input at a time on a topic of the relay, whose topic 0 is the environment's and within 0..9
abbrev pub given : ℕ → ℕ → List ℤ → StatedInput
given t topic value = record { at = t; topic = topic; value = value }

-- an input fits at the horizon, and not after it, on a node's topic, with a number outside its
-- range, or with a number too many or too few
abbrev pub InputsFit : Global → Type 0
InputsFit g =
    FitsInput (relay g) 4 (given 4 0 (pos 9 ∷ []))
    × (FitsInput (relay g) 4 (given 5 0 (pos 9 ∷ [])) → ⊥)
    × (FitsInput (relay g) 4 (given 4 1 (pos 9 ∷ [])) → ⊥)
    × (FitsInput (relay g) 4 (given 4 0 (pos 10 ∷ [])) → ⊥)
    × (FitsInput (relay g) 4 (given 4 0 (negsuc 0 ∷ [])) → ⊥)
    × (FitsInput (relay g) 4 (given 4 0 (pos 5 ∷ pos 5 ∷ [])) → ⊥)
    × (FitsInput (relay g) 4 (given 4 0 []) → ⊥)

-- the running example's disturbance is within -1..1: rows at its ends fit, and no list without
-- rows, no row outside, also as the last one, none of another width, and no flight without a sway
abbrev pub SwaysFit : Global → Type 0
SwaysFit g =
    FitsSway (pos_plant g) (Listed ((pos 1 ∷ []) ∷ (negsuc 0 ∷ []) ∷ []))
    × (FitsSway (pos_plant g) (Listed []) → ⊥)
    × (FitsSway (pos_plant g) (Listed ((pos 1 ∷ []) ∷ (pos 2 ∷ []) ∷ [])) → ⊥)
    × (FitsSway (pos_plant g) (Listed ((negsuc 1 ∷ []) ∷ [])) → ⊥)
    × (FitsSway (pos_plant g) (Listed ((pos 0 ∷ pos 0 ∷ []) ∷ [])) → ⊥)
    × (FitsSway (pos_plant g) Still → ⊥)
    × FitsSway (pos_plant g) (Drawn (Ends 1) 0 0)
    × (FitsSway (pos_plant g) (Drawn (Ends 0) 0 0) → ⊥)

-- `fast` has no code and writes one number, `slow` has code
abbrev pub CrewsFit : Global → Type 0
CrewsFit g =
    FitsCrew (fast g) (Script ((Some (pos 7) ∷ []) ∷ (None ∷ []) ∷ []))
    × (FitsCrew (fast g) (Script []) → ⊥)
    × (FitsCrew (fast g) (Script ((None ∷ []) ∷ [] ∷ [])) → ⊥)
    × (FitsCrew (fast g) Coded → ⊥)
    × (FitsCrew (slow g) (Script ((None ∷ []) ∷ [])) → ⊥)
    × (FitsCrew (slow g) (Wild Anywhere 1 1) → ⊥)
    × (FitsCrew (slow g) (Guest 0) → ⊥)
    × FitsCrew (fast g) (Wild (Ends 1) 0 0)
    × (FitsCrew (fast g) (Wild (Ends 0) 0 0) → ⊥)

-- two nodes of period 4 that guests may draft for, flown for an instant
abbrev pub hosts : Global → Tables
hosts g = record (line g) { plants = []; nodes = fast g ∷ fast g ∷ []; modules = [] }

abbrev pub hosting : Crew → Crew → Plan
hosting one other =
    record {
      horizon = 0;
      start = [];
      inputs = [];
      sways = [];
      crews = one ∷ other ∷ [];
      events = 2;
      numbers = 2;
    }

-- two guests at the two nodes fit, and neither one guest at both nor a guest that is not there
abbrev pub GuestsFit : Global → Type 0
GuestsFit g =
    FitsFlight (hosts g) 2 (hosting (Guest 1) (Guest 0))
    × (FitsFlight (hosts g) 2 (hosting (Guest 0) (Guest 0)) → ⊥)
    × (FitsFlight (hosts g) 1 (hosting (Guest 1) (Guest 0)) → ⊥)

-- the relay's flight has an input and a firing, with a number each; four ticks of the running
-- example have the firings at 0 and 4, and at 0, 2 and 4, two decisions, and for each tick a
-- disturbance and a state
abbrev pub CountsOfFlights : Global → Type 0
CountsOfFlights g =
    (event_count (relay g) relay_flight ≡ 2)
    × (number_count (relay g) relay_flight ≡ 2)
    × (event_count (line g) (ticks_alone 4) ≡ 11)
    × (number_count (line g) (ticks_alone 4) ≡ 13)
    × (event_count (line g) (ticks_alone 3) ≡ 7)
