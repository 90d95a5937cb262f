-- The limits of a flight's events and numbers, each just reached and passed by one.
use Rattle.std.specs.Prelude.{◌≡◌, ◌≤◌, ℕ, pos, [], ◌∷◌, Ok, Err, replicate}
use Rattle.std.specs.Global.{Global}
use Rattle.sot_lang.specs.Tables.{Tables}
use Rattle.sot_lang.specs.Line.{line, pos_plant}
use Rattle.sot_json.specs.declared.fault.JsonKind.TheVariants.{TooManyEvents, TooManyNumbers}
use Rattle.sot_flight.specs.Plans.{StatedInput, Plan}
use Rattle.sot_flight.specs.Fits.{FitsFlight}
use Rattle.sot_flight.specs.FlightFormat.{counted}

-- an input of no number, and one of a number
abbrev pub bare : StatedInput
bare = record { at = 0; topic = 1; value = [] }

abbrev pub single : StatedInput
single = record { at = 0; topic = 1; value = pos 0 ∷ [] }

module _ (g : Global) where
  -- one plant, which has a disturbance and a state variable, and nothing that fires or decides
  abbrev pub one_plant : Tables
  one_plant = record (line g) { nodes = []; modules = [] }

  -- five of them: ten numbers a tick
  abbrev pub five_plants : Tables
  five_plants = record (line g) {
    plants = pos_plant g ∷ pos_plant g ∷ pos_plant g ∷ pos_plant g ∷ pos_plant g ∷ [];
    nodes = [];
    modules = [];
  }

  -- 100,000 ticks and 100,000 inputs are 200,000 events, which a flight may have
  abbrev pub MostEvents : Type 0
  MostEvents =
      counted one_plant 100000 [] (replicate 100000 bare) [] []
      ≡ Ok (record {
        horizon = 100000;
        start = [];
        inputs = replicate 100000 bare;
        sways = [];
        crews = [];
        events = 200000;
        numbers = 200000;
      })

  -- 100,000 ticks and 100,001 inputs are too many events
  abbrev pub OneEventTooMany : Type 0
  OneEventTooMany =
      counted one_plant 100000 [] (replicate 100001 bare) [] []
      ≡ Err (record { path = []; kind = TooManyEvents })

  -- 100,000 ticks of ten numbers are 1,000,000 numbers, which a flight may have
  abbrev pub MostNumbers : Type 0
  MostNumbers =
      counted five_plants 100000 [] [] [] []
      ≡ Ok (record {
        horizon = 100000;
        start = [];
        inputs = [];
        sways = [];
        crews = [];
        events = 100000;
        numbers = 1000000;
      })

  -- 100,000 ticks of ten numbers and an input of one number are too many numbers
  abbrev pub OneNumberTooMany : Type 0
  OneNumberTooMany =
      counted five_plants 100000 [] (single ∷ []) [] []
      ≡ Err (record { path = []; kind = TooManyNumbers })

-- no flight that fits its program has more
abbrev pub FitNoMore : Type 0
FitNoMore =
    (p : Tables) (guests : ℕ) (f : Plan) → FitsFlight p guests f
    → (f.events ≤ 200000) × (f.numbers ≤ 1000000)
