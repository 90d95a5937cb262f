-- Worked flights, as statements that the functions of `facts` prove: what a text says, by hand.
use Rattle.std.proofs.Common.{refl}
use Rattle.std.specs.Prelude.{◌≡◌, ℕ, pos, negsuc, true, false, List, [], ◌∷◌, ◌++◌, codes, Some}
use Rattle.std.specs.Prelude.{None, Ok, Err}
use Rattle.std.specs.Global.{Global}
use Rattle.sot_lang.specs.declared.tables.TopicInfo.{TopicInfo}
use Rattle.sot_lang.specs.declared.tables.ScalarInfo.{ScalarInfo}
use Rattle.sot_lang.specs.declared.tables.NodeInfo.{NodeInfo}
use Rattle.sot_lang.specs.declared.tables.PlantInfo.{PlantInfo}
use Rattle.sot_lang.specs.Tables.{Tables}
use Rattle.sot_lang.specs.Line.{vec, line, cmd, cmd_number, pos_plant, fast, slow, nav}
use Rattle.sot_json.specs.declared.fault.JsonKind.{JsonKind}
use Rattle.sot_json.specs.declared.fault.JsonKind.TheVariants.{NotJson, WrongShape, NotWhole}
use Rattle.sot_json.specs.declared.fault.JsonKind.TheVariants.{OutsideRange, Missing, Unknown}
use Rattle.sot_json.specs.declared.fault.JsonKind.TheVariants.{Width, Empty, Order, NoGuest}
use Rattle.sot_json.specs.declared.fault.JsonKind.TheVariants.{GuestTwice}
use Rattle.sot_flight.specs.declared.spread.Spread.TheVariants.{Anywhere, Ends}
use Rattle.sot_flight.specs.Plans.{Still, High, Listed, Drawn, Coded, Script, Wild, Guest}
use Rattle.sot_flight.specs.FlightFormat.{flight_of}

module _ (g : Global) where
  -- ---- the running example

  -- a script of one draft, a list of one row, and 20 ticks: 6 and 11 firings, 6 decisions, and two
  -- numbers a tick
  abbrev pub OnTheLine : Type 0
  OnTheLine =
      flight_of (line g) 0
      (codes "{\"crew\":{\"fast\":{\"drafts\":[[2]],\"kind\":\"script\"}},\"format\":1,"
      ++ codes "\"horizon\":20,\"inputs\":[],\"start\":{\"pos\":[0]},\"sway\":{\"pos\":{"
      ++ codes "\"kind\":\"list\",\"values\":[[0]]}}}")
      ≡ Ok (record {
        horizon = 20;
        start = (pos 0 ∷ []) ∷ [];
        inputs = [];
        sways = Listed ((pos 0 ∷ []) ∷ []) ∷ [];
        crews = Script ((Some (pos 2) ∷ []) ∷ []) ∷ Coded ∷ [];
        events = 43;
        numbers = 57;
      })

  -- ---- with an environment topic of a number and a truth value, a plant without disturbances, and
  -- ---- another external node

  abbrev pub env : TopicInfo
  env = record { name = codes "env"; outside = true; first = 1; count = 2 }

  abbrev pub env_number : ScalarInfo
  env_number =
      record {
        topic = 1;
        field = Some (codes "n");
        scale = 0;
        truth = false;
        lo = pos 0;
        hi = pos 9;
        init = pos 0;
      }

  abbrev pub env_flag : ScalarInfo
  env_flag =
      record {
        topic = 1;
        field = Some (codes "on");
        scale = 0;
        truth = true;
        lo = pos 0;
        hi = pos 1;
        init = pos 0;
      }

  abbrev pub aux : NodeInfo
  aux = record (fast g) { name = codes "aux" }

  abbrev pub calm : PlantInfo
  calm = record (pos_plant g) { name = codes "calm"; noise = vec g [] refl }

  abbrev pub rich : Tables
  rich = record {
    topics = cmd g ∷ env ∷ [];
    scalars = cmd_number g ∷ env_number ∷ env_flag ∷ [];
    plants = pos_plant g ∷ calm ∷ [];
    nodes = fast g ∷ slow g ∷ aux ∷ [];
    modules = nav g ∷ [];
  }

  -- ---- a flight of each part

  abbrev pub some_start : List ℕ
  some_start = codes "{\"pos\":[-7],\"calm\":[1000000000000]}"

  abbrev pub some_inputs : List ℕ
  some_inputs =
      codes "[{\"at\":0,\"topic\":\"env\",\"value\":[9,1]},{\"at\":4,\"topic\":\"env\",\"value\":["
      ++ codes "0,0]}]"

  abbrev pub some_sway : List ℕ
  some_sway = codes "{\"pos\":{\"kind\":\"seed\",\"seed\":42,\"stream\":54}}"

  abbrev pub some_crew : List ℕ
  some_crew =
      codes "{\"fast\":{\"kind\":\"wild\",\"seed\":0,\"stream\":1000000000000},\"aux\":{"
      ++ codes "\"kind\":\"guest\",\"index\":1}}"

  -- the text of these parts
  abbrev pub text_of : List ℕ → List ℕ → List ℕ → List ℕ → List ℕ → List ℕ
  text_of horizon start inputs sway crew =
      codes "{\"format\":1,\"horizon\":" ++ horizon ++ codes ",\"start\":" ++ start
      ++ codes ",\"inputs\":" ++ inputs ++ codes ",\"sway\":" ++ sway ++ codes ",\"crew\":" ++ crew
      ++ codes "}"

  -- each kind of sway and crew at its limits: 2, 3 and 2 firings, 2 decisions, 2 inputs and 4
  -- ticks; 3 numbers a tick
  abbrev pub OfEachKind : Type 0
  OfEachKind =
      flight_of rich 2 (text_of (codes "4") some_start some_inputs some_sway some_crew)
      ≡ Ok (record {
        horizon = 4;
        start = (negsuc 6 ∷ []) ∷ (pos 1000000000000 ∷ []) ∷ [];
        inputs =
            record { at = 0; topic = 1; value = pos 9 ∷ pos 1 ∷ [] } ∷ record
            { at = 4; topic = 1; value = pos 0 ∷ pos 0 ∷ [] } ∷ [];
        sways = Drawn Anywhere 42 54 ∷ Still ∷ [];
        crews = Wild Anywhere 0 1000000000000 ∷ Coded ∷ Guest 1 ∷ [];
        events = 15;
        numbers = 23;
      })

  -- of a repeated key the last value stays, and a draft may be past the range of its scalar, or be
  -- none
  abbrev pub LastOfRepeated : Type 0
  LastOfRepeated =
      flight_of rich 0
      (codes "{\"horizon\":9,\"format\":1,\"crew\":{\"aux\":{\"kind\":\"script\",\"drafts\":[["
      ++ codes "null]]},\"fast\":{\"kind\":\"script\",\"drafts\":[[7],[null]]}},\"sway\":{"
      ++ codes "\"pos\":{\"kind\":\"high\"}},\"start\":{\"calm\":[0],\"pos\":[0]},\"inputs\":["
      ++ codes "],\"horizon\":0}")
      ≡ Ok (record {
        horizon = 0;
        start = (pos 0 ∷ []) ∷ (pos 0 ∷ []) ∷ [];
        inputs = [];
        sways = High ∷ Still ∷ [];
        crews =
            Script ((Some (pos 7) ∷ []) ∷ (None ∷ []) ∷ []) ∷ Coded ∷ Script ((None ∷ []) ∷ []) ∷
            [];
        events = 4;
        numbers = 3;
      })

  -- ends of ranges, which are held for 1 tick and for 100,000 firings
  abbrev pub HeldEdges : Type 0
  HeldEdges =
      flight_of rich 0
      (codes "{\"horizon\":0,\"format\":1,\"crew\":{\"aux\":{\"kind\":\"script\",\"drafts\":[["
      ++ codes "null]]},\"fast\":{\"stream\":6,\"seed\":5,\"hold\":100000,\"kind\":\"edge\"}},"
      ++ codes "\"sway\":{\"pos\":{\"kind\":\"edge\",\"hold\":1,\"seed\":42,\"stream\":54}},"
      ++ codes "\"start\":{\"calm\":[0],\"pos\":[0]},\"inputs\":[]}")
      ≡ Ok (record {
        horizon = 0;
        start = (pos 0 ∷ []) ∷ (pos 0 ∷ []) ∷ [];
        inputs = [];
        sways = Drawn (Ends 1) 42 54 ∷ Still ∷ [];
        crews = Wild (Ends 100000) 5 6 ∷ Coded ∷ Script ((None ∷ []) ∷ []) ∷ [];
        events = 4;
        numbers = 3;
      })

  -- ---- faults

  -- the first fault of a text of a flight of these tables, for two guests
  abbrev pub FaultsAt : List ℕ → List ℕ → JsonKind → Type 0
  FaultsAt text path kind = flight_of rich 2 text ≡ Err (record { path = path; kind = kind })

  -- the first fault of one part, at this path below it
  abbrev pub HorizonFaultsAt : List ℕ → List ℕ → JsonKind → Type 0
  HorizonFaultsAt part path kind =
      FaultsAt (text_of part some_start some_inputs some_sway some_crew) (codes "/horizon" ++ path)
      kind

  abbrev pub StartFaultsAt : List ℕ → List ℕ → JsonKind → Type 0
  StartFaultsAt part path kind =
      FaultsAt (text_of (codes "4") part some_inputs some_sway some_crew) (codes "/start" ++ path)
      kind

  abbrev pub InputsFaultsAt : List ℕ → List ℕ → JsonKind → Type 0
  InputsFaultsAt part path kind =
      FaultsAt (text_of (codes "4") some_start part some_sway some_crew) (codes "/inputs" ++ path)
      kind

  abbrev pub SwayFaultsAt : List ℕ → List ℕ → JsonKind → Type 0
  SwayFaultsAt part path kind =
      FaultsAt (text_of (codes "4") some_start some_inputs part some_crew) (codes "/sway" ++ path)
      kind

  abbrev pub CrewFaultsAt : List ℕ → List ℕ → JsonKind → Type 0
  CrewFaultsAt part path kind =
      FaultsAt (text_of (codes "4") some_start some_inputs some_sway part) (codes "/crew" ++ path)
      kind

  -- the keys of the format in its order, and unknown ones last
  abbrev pub Keys : Type 0
  Keys =
      FaultsAt (codes "{}") (codes "/format") Missing
      × FaultsAt (codes "{\"format\":2}") (codes "/format") OutsideRange
      × FaultsAt (codes "{\"format\":1,\"x\":0}") (codes "/horizon") Missing
      × FaultsAt (codes "{\"format\":1,\"horizon\":0}") (codes "/start") Missing
      × FaultsAt
      (codes "{\"format\":1,\"horizon\":0,\"start\":{\"pos\":[-7],\"calm\":[1000000000000]}}")
      (codes "/inputs") Missing
      × FaultsAt
      (codes "{\"format\":1,\"horizon\":0,\"start\":{\"pos\":[-7],\"calm\":[1000000000000]},"
      ++ codes "\"inputs\":[],\"crew\":0}") (codes "/sway") Missing
      × FaultsAt
      (codes "{\"format\":1,\"horizon\":0,\"start\":{\"pos\":[-7],\"calm\":[1000000000000]},"
      ++ codes "\"inputs\":[],\"sway\":{\"pos\":{\"kind\":\"seed\",\"seed\":42,"
      ++ codes "\"stream\":54}},\"x\":0}") (codes "/crew") Missing
      × FaultsAt
      (codes "{\"format\":1,\"horizon\":4,\"start\":{\"pos\":[-7],\"calm\":[1000000000000]},"
      ++ codes "\"inputs\":[],\"sway\":{\"pos\":{\"kind\":\"seed\",\"seed\":42,"
      ++ codes "\"stream\":54}},\"crew\":{\"fast\":{\"kind\":\"wild\",\"seed\":0,"
      ++ codes "\"stream\":1000000000000},\"aux\":{\"kind\":\"guest\",\"index\":1}},\"x\":0}") []
      Unknown
      × FaultsAt (codes "{\"format\":1}x") [] NotJson
      × FaultsAt (codes "[]") [] WrongShape

  -- a whole number up to 100,000
  abbrev pub Horizons : Type 0
  Horizons =
      HorizonFaultsAt (codes "100001") [] OutsideRange
      × HorizonFaultsAt (codes "-1") [] OutsideRange
      × HorizonFaultsAt (codes "4.0") [] NotWhole
      × HorizonFaultsAt (codes "\"4\"") [] WrongShape

  -- a point for each plant, with a number from -10^12 to 10^12 for each state variable
  abbrev pub Starts : Type 0
  Starts =
      StartFaultsAt (codes "[]") [] WrongShape
      × StartFaultsAt (codes "{\"calm\":[0]}") (codes "/pos") Missing
      × StartFaultsAt (codes "{\"pos\":[0,0],\"calm\":[0]}") (codes "/pos") Width
      × StartFaultsAt (codes "{\"pos\":[0],\"calm\":[1000000000001]}") (codes "/calm/0")
      OutsideRange
      × StartFaultsAt (codes "{\"pos\":[0],\"calm\":[0],\"x\":0}") [] Unknown

  -- the time of an input, in order, an environment topic, and a number in range for each of its
  -- scalars
  abbrev pub InputFaults : Type 0
  InputFaults =
      InputsFaultsAt (codes "{}") [] WrongShape
      × InputsFaultsAt (codes "[0]") (codes "/0") WrongShape
      × InputsFaultsAt (codes "[{\"at\":5,\"topic\":\"cmd\",\"value\":[0]}]") (codes "/0/at")
      OutsideRange
      × InputsFaultsAt
      (codes "[{\"at\":4,\"topic\":\"env\",\"value\":[0,0]},{\"at\":3,\"topic\":0,\"value\":0}]")
      (codes "/1/at") Order
      × InputsFaultsAt (codes "[{\"at\":0,\"topic\":\"cmd\",\"value\":[0]}]") (codes "/0/topic")
      Unknown
      × InputsFaultsAt (codes "[{\"at\":0,\"topic\":\"zap\",\"value\":[0]}]") (codes "/0/topic")
      Unknown
      × InputsFaultsAt (codes "[{\"at\":0,\"topic\":0}]") (codes "/0/topic") WrongShape
      × InputsFaultsAt (codes "[{\"at\":0,\"topic\":\"env\",\"value\":[0]}]") (codes "/0/value")
      Width
      × InputsFaultsAt (codes "[{\"at\":0,\"topic\":\"env\",\"value\":[10,0]}]")
      (codes "/0/value/0") OutsideRange
      × InputsFaultsAt (codes "[{\"at\":0,\"topic\":\"env\",\"value\":[9,2]}]") (codes "/0/value/1")
      OutsideRange
      × InputsFaultsAt (codes "[{\"at\":0,\"topic\":\"env\",\"value\":[9,true]}]")
      (codes "/0/value/1") WrongShape
      × InputsFaultsAt (codes "[{\"at\":0,\"topic\":\"env\",\"value\":[9,1],\"x\":0}]") (codes "/0")
      Unknown

  -- a sway for each plant with disturbances, by its kind, and no other one
  abbrev pub SwayFaults : Type 0
  SwayFaults =
      SwayFaultsAt (codes "{}") (codes "/pos") Missing
      × SwayFaultsAt (codes "{\"pos\":{}}") (codes "/pos/kind") Missing
      × SwayFaultsAt (codes "{\"pos\":{\"kind\":\"none\",\"x\":0}}") (codes "/pos/kind") WrongShape
      × SwayFaultsAt (codes "{\"pos\":{\"kind\":\"low\",\"x\":0}}") (codes "/pos") Unknown
      × SwayFaultsAt (codes "{\"pos\":{\"kind\":\"list\",\"values\":[]}}") (codes "/pos/values")
      Empty
      × SwayFaultsAt (codes "{\"pos\":{\"kind\":\"list\",\"values\":[[0],[]]}}")
      (codes "/pos/values/1") Width
      × SwayFaultsAt (codes "{\"pos\":{\"kind\":\"list\",\"values\":[[1],[2]]}}")
      (codes "/pos/values/1/0") OutsideRange
      × SwayFaultsAt (codes "{\"pos\":{\"kind\":\"seed\",\"seed\":-1}}") (codes "/pos/seed")
      OutsideRange
      × SwayFaultsAt (codes "{\"pos\":{\"kind\":\"seed\",\"seed\":0}}") (codes "/pos/stream")
      Missing
      × SwayFaultsAt (codes "{\"pos\":{\"kind\":\"edge\",\"seed\":0,\"stream\":0}}") (codes "/pos/hold")
      Missing
      × SwayFaultsAt (codes "{\"pos\":{\"kind\":\"edge\",\"hold\":0,\"seed\":-1}}") (codes "/pos/hold")
      OutsideRange
      × SwayFaultsAt (codes "{\"pos\":{\"kind\":\"edge\",\"hold\":100001}}") (codes "/pos/hold")
      OutsideRange
      × SwayFaultsAt (codes "{\"pos\":{\"kind\":\"edge\",\"hold\":[1]}}") (codes "/pos/hold")
      WrongShape
      × SwayFaultsAt (codes "{\"pos\":{\"kind\":\"edge\",\"hold\":1,\"stream\":0}}") (codes "/pos/seed")
      Missing
      × SwayFaultsAt
      (codes "{\"pos\":{\"kind\":\"edge\",\"hold\":1,\"seed\":0,\"stream\":0,\"x\":0}}") (codes "/pos")
      Unknown
      × SwayFaultsAt (codes "{\"pos\":{\"kind\":\"seed\",\"hold\":1,\"seed\":0,\"stream\":0}}")
      (codes "/pos") Unknown
      × SwayFaultsAt (codes "{\"pos\":{\"kind\":\"high\"},\"calm\":{\"kind\":\"high\"}}") [] Unknown

  -- a crew for each external node, by its kind, and no other one
  abbrev pub CrewFaults : Type 0
  CrewFaults =
      CrewFaultsAt (codes "{\"aux\":0}") (codes "/fast") Missing
      × CrewFaultsAt (codes "{\"fast\":{\"kind\":\"low\"}}") (codes "/fast/kind") WrongShape
      × CrewFaultsAt (codes "{\"fast\":{\"kind\":\"script\",\"drafts\":[]}}") (codes "/fast/drafts")
      Empty
      × CrewFaultsAt (codes "{\"fast\":{\"kind\":\"script\",\"drafts\":[[0,0]]}}")
      (codes "/fast/drafts/0") Width
      × CrewFaultsAt (codes "{\"fast\":{\"kind\":\"script\",\"drafts\":[[null],[false]]}}")
      (codes "/fast/drafts/1/0") WrongShape
      × CrewFaultsAt (codes "{\"fast\":{\"kind\":\"wild\",\"seed\":0,\"stream\":1000000000001}}")
      (codes "/fast/stream") OutsideRange
      × CrewFaultsAt (codes "{\"fast\":{\"kind\":\"edge\",\"seed\":0,\"stream\":0}}")
      (codes "/fast/hold") Missing
      × CrewFaultsAt (codes "{\"fast\":{\"kind\":\"edge\",\"hold\":0,\"seed\":0,\"stream\":0}}")
      (codes "/fast/hold") OutsideRange
      × CrewFaultsAt (codes "{\"fast\":{\"kind\":\"guest\",\"index\":2}}") (codes "/fast/index")
      NoGuest
      × CrewFaultsAt
      (codes "{\"fast\":{\"kind\":\"guest\",\"index\":1},\"aux\":{\"kind\":\"guest\",\"index\":1}}")
      (codes "/aux/index") GuestTwice
      × CrewFaultsAt (codes "{\"fast\":{\"kind\":\"guest\",\"index\":1,\"x\":0}}") (codes "/fast")
      Unknown
      × CrewFaultsAt
      (codes "{\"fast\":{\"kind\":\"guest\",\"index\":0},\"aux\":{\"kind\":\"guest\",\"index\":1},"
      ++ codes "\"slow\":0}") [] Unknown
