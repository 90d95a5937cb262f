-- What a decision module says of an accepted program before the first line of a robot: all that a
-- robot has to know of its text.
use Rattle.std.specs.Prelude.{ℕ, ◌+◌, ◌^◌, ◌-◌, ℤ, pos, negsuc, List, [], ◌∷◌, ◌++◌}
use Rattle.std.specs.Prelude.{codes, is_none, if◌then◌else◌, slice_get}
use Rattle.std.specs.Option.{option_map_or}
use Rattle.sot_lang.specs.declared.tables.TopicInfo.{TopicInfo}
use Rattle.sot_lang.specs.declared.tables.ScalarInfo.{ScalarInfo}
use Rattle.sot_lang.specs.declared.tables.StateInfo.{StateInfo}
use Rattle.sot_lang.specs.declared.tables.PlantInfo.{PlantInfo}
use Rattle.sot_lang.specs.declared.tables.NodeInfo.{NodeInfo}
use Rattle.sot_lang.specs.declared.tables.ModuleInfo.{ModuleInfo}
use Rattle.sot_lang.specs.Tables.{Tables}
use Rattle.sot_trace.specs.Names.{scalar_name}
use Rattle.sot_trace.specs.Numbers.{numeral, signed_numeral}

-- `says KIND NAME`
abbrev pub says : List ℕ → List ℕ → List ℕ
says kind name = codes "says " ++ (kind ++ (codes " " ++ name))

-- ` scale S range LOW HIGH`, and the line's end: so many decimals, and the mantissas that are taken
abbrev pub range_end : ℕ → ℤ → ℤ → List ℕ
range_end scale lo hi =
    codes " scale " ++ (numeral scale ++ (codes " range "
    ++ (signed_numeral lo ++ (codes " " ++ (signed_numeral hi ++ 10 ∷ [])))))

-- `says state PLANT NAME scale S range LOW HIGH`: any number of 64 bits may be observed
abbrev pub state_text : List ℕ → StateInfo → List ℕ
state_text plant s =
    says (codes "state") plant
    ++ (codes " " ++ (s.name ++ range_end s.scale (negsuc (2 ^ 63 - 1)) (pos (2 ^ 63 - 1))))

abbrev pub states_text : List ℕ → List StateInfo → List ℕ
states_text plant [] = []
states_text plant (s ∷ ss) = state_text plant s ++ states_text plant ss

-- what stands behind the name of the scalar at this place
abbrev pub scalar_end : Tables → ℕ → List ℕ
scalar_end p k = option_map_or (λ s. range_end s.scale s.lo s.hi) (slice_get p.scalars k) []

-- `says KIND NAME SCALAR scale S range LOW HIGH`
abbrev pub scalar_text : List ℕ → List ℕ → Tables → ℕ → List ℕ
scalar_text kind name p k = says kind name ++ (codes " " ++ (scalar_name p k ++ scalar_end p k))

abbrev pub scalars_text : List ℕ → List ℕ → Tables → List ℕ → List ℕ
scalars_text kind name p [] = []
scalars_text kind name p (k ∷ ks) = scalar_text kind name p k ++ scalars_text kind name p ks

-- a plant: its state variables, and the commands that it takes
abbrev pub plant_text : Tables → PlantInfo → List ℕ
plant_text p x =
    states_text x.name x.states.items
    ++ scalars_text (codes "command") x.name p x.inputs.items

abbrev pub plants_text : Tables → List PlantInfo → List ℕ
plants_text p [] = []
plants_text p (x ∷ xs) = plant_text p x ++ plants_text p xs

-- the scalar at this place, where its topic is an environment topic; and nothing of any other
abbrev pub topic_text : Tables → ℕ → TopicInfo → List ℕ
topic_text p k x = if x.outside then scalar_text (codes "input") x.name p k else []

abbrev pub input_text : Tables → ℕ → ScalarInfo → List ℕ
input_text p k s = option_map_or (topic_text p k) (slice_get p.topics s.topic) []

-- these scalars, which are numbered from this place on
abbrev pub inputs_text : Tables → ℕ → List ScalarInfo → List ℕ
inputs_text p k [] = []
inputs_text p k (s ∷ ss) = input_text p k s ++ inputs_text p (k + 1) ss

-- an external node, and the scalars that it may draft
abbrev pub external_text : Tables → NodeInfo → List ℕ
external_text p n =
    says (codes "external") n.name
    ++ (10 ∷ scalars_text (codes "draft") n.name p n.writes.items)

abbrev pub node_text : Tables → NodeInfo → List ℕ
node_text p n = if is_none n.body then external_text p n else []

abbrev pub nodes_text : Tables → List NodeInfo → List ℕ
nodes_text p [] = []
nodes_text p (n ∷ ns) = node_text p n ++ nodes_text p ns

-- `says module NAME`
abbrev pub module_text : ModuleInfo → List ℕ
module_text m = says (codes "module") m.name ++ 10 ∷ []

abbrev pub modules_text : List ModuleInfo → List ℕ
modules_text [] = []
modules_text (m ∷ ms) = module_text m ++ modules_text ms

-- each in declared order, and last `says all`
abbrev pub outline_text : Tables → List ℕ
outline_text p =
    plants_text p p.plants
    ++ (inputs_text p 0 p.scalars
    ++ (nodes_text p p.nodes ++ (modules_text p.modules ++ codes "says all\n")))
