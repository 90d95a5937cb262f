-- Which topics a node writes, and which are the inputs of a plant.
use Rattle.std.specs.Prelude.{ℕ, ◌≡◌}
use Rattle.sot_lang.specs.declared.tables.ScalarInfo.{ScalarInfo}
use Rattle.sot_lang.specs.declared.tables.PlantInfo.{PlantInfo}
use Rattle.sot_lang.specs.declared.tables.NodeInfo.{NodeInfo}
use Rattle.sot_lang.specs.Tables.{Tables}
use Rattle.sot_lists.specs.Places.{At, Has}

-- the scalar at place k is one of topic t
abbrev pub IsOfTopic : Tables → ℕ → ℕ → Type 0
IsOfTopic p k t = (info : ScalarInfo) × At p.scalars k info × (info.topic ≡ t)

-- a node writes a topic where it writes one of its scalars
abbrev pub WritesTopic : Tables → NodeInfo → ℕ → Type 0
WritesTopic p node t = (k : ℕ) × Has node.writes.items k × IsOfTopic p k t

-- a topic is an input topic of a plant where one of its scalars is an input of the plant
abbrev pub IsInputTopic : Tables → PlantInfo → ℕ → Type 0
IsInputTopic p plant t = (k : ℕ) × Has plant.inputs.items k × IsOfTopic p k t
