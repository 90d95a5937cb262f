-- Summaries that were counted by hand.
use Rattle.std.specs.Prelude.{◌≡◌, ℕ, ℤ, pos, negsuc, false, List, [], ◌∷◌, codes}
use Rattle.std.proofs.Common.{refl}
use Rattle.std.specs.Global.{Global}
use Rattle.sot_lang.specs.declared.tables.PlantInfo.{PlantInfo}
use Rattle.sot_lang.specs.declared.tables.ModuleInfo.{ModuleInfo}
use Rattle.sot_lang.specs.Tables.{Tables}
use Rattle.sot_lang.specs.Line.{line, nav, pos_plant, side, vec}
use Rattle.sot_world.specs.declared.mode.Mode.TheVariants.{Ac}
use Rattle.sot_world.specs.Examples.{relay}
use Rattle.sot_world.specs.HistoryEntry.{Logged, DecideAt, TickAt}
use Rattle.sot_flight.specs.Plans.{Plan}
use Rattle.sot_board.specs.Examples.{relay_flight, relay_history}
use Rattle.sot_trace.specs.Examples.{fires, idles, ticks}
use Rattle.sot_summary.specs.Summaries.{summary_of}
use Rattle.sot_summary.specs.SummaryText.{summary_text}

-- an input and a firing, and no tick
abbrev pub RelaySummary : Global → Type 0
RelaySummary g =
    summary_of (relay g) relay_flight relay_history
    ≡ record {
      modules = 0;
      nodes = 1;
      horizon = 0;
      firings = 1;
      ticks = 0;
      refused = 0;
      outside = 0;
      sum = pos 0;
    }

-- a flight of so many ticks
abbrev pub flight_of : ℕ → Plan
flight_of horizon = record relay_flight { horizon = horizon }

-- a decision, three firings, of which the one that is disabled drafts -3, outside -2..2, and ticks
-- to 40, 41 and -41: the safe region is -40..40
abbrev pub line_history : List Logged
line_history =
    DecideAt 0 0 Ac ∷ fires 0 0 (pos 2) ∷ idles 0 1 (negsuc 2) ∷ ticks 0 (pos 1) (pos 40) ∷ ticks 1
    (pos 1) (pos 41) ∷ fires 2 1 (pos 0) ∷ ticks 2 (pos 0) (negsuc 40) ∷ []

abbrev pub LineSummary : Global → Type 0
LineSummary g =
    summary_of (line g) (flight_of 5) line_history
    ≡ record {
      modules = 1;
      nodes = 2;
      horizon = 5;
      firings = 4;
      ticks = 3;
      refused = 1;
      outside = 2;
      sum = pos 40;
    }

module _ (g : Global) where
  -- the running example with a second plant, of two states, whose module has a safe region of two
  -- boxes; the modules stand in the other order than their plants
  abbrev pub arm : PlantInfo
  arm =
      record (pos_plant g) {
        name = codes "arm";
        states =
            vec g (record { name = codes "x"; scale = 0 } ∷ record { name = codes "v"; scale = 0 } ∷
            [])
            refl;
      }

  abbrev pub hold : ModuleInfo
  hold = record (nav g) {
    name = codes "hold";
    plant = 1;
    safe =
        record {
          width = 2;
          boxes = (side (pos 0) (pos 5) ∷ side (pos 0) (pos 5) ∷ []) ∷
              (side (pos 6) (pos 9) ∷ side (pos 0) (pos 0) ∷ []) ∷ [];
          settled = false;
        };
  }

  abbrev pub two_plants : Tables
  two_plants = record (line g) { plants = pos_plant g ∷ arm ∷ []; modules = hold ∷ nav g ∷ [] }

-- a tick of both plants
abbrev pub both : ℕ → ℤ → ℤ → ℤ → Logged
both time a x v = TickAt time [] (a ∷ x ∷ v ∷ [])

-- both inside twice, then one outside, then the other, and then both: three ticks
abbrev pub two_plants_history : List Logged
two_plants_history =
    both 0 (pos 0) (pos 5) (pos 5) ∷ both 1 (pos 0) (pos 7) (pos 0) ∷ both 2 (pos 0) (pos 7) (pos 1)
    ∷ both 3 (pos 41) (pos 5) (pos 5) ∷ both 4 (pos 41) (pos 7) (pos 1) ∷ []

abbrev pub EachPlantInItsRegion : Global → Type 0
EachPlantInItsRegion g =
    summary_of (two_plants g) (flight_of 5) two_plants_history
    ≡ record {
      modules = 2;
      nodes = 2;
      horizon = 5;
      firings = 0;
      ticks = 5;
      refused = 0;
      outside = 3;
      sum = pos 125;
    }

-- a summary, and one with a sum below 0
abbrev pub SaidInOneLine : Type 0
SaidInOneLine =
    (summary_text (record {
      modules = 2;
      nodes = 4;
      horizon = 1000;
      firings = 2002;
      ticks = 1000;
      refused = 0;
      outside = 0;
      sum = pos 710;
    })
    ≡ codes
    "soak modules 2 nodes 4 horizon 1000 firings 2002 ticks 1000 refused 0 outside 0 sum 710\n")
    × (summary_text (record {
      modules = 1;
      nodes = 2;
      horizon = 5;
      firings = 4;
      ticks = 3;
      refused = 1;
      outside = 2;
      sum = negsuc 2;
    })
    ≡ codes "soak modules 1 nodes 2 horizon 5 firings 4 ticks 3 refused 1 outside 2 sum -3\n")
