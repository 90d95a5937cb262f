-- Nodes with a body, and nodes without one.
use Rattle.std.specs.Prelude.{ℕ, ◌≡◌, List, None}
use Rattle.sot_lists.specs.Places.{At}
use Rattle.sot_lang.specs.declared.act.Act.{Act}
use Rattle.sot_lang.specs.declared.tables.NodeInfo.{NodeInfo}
use Rattle.sot_lang.specs.Tables.{Tables}
use Rattle.sot_lang.specs.TableRules.{IsCoded}

-- a node is there and has a body, or it is there and has none
abbrev pub IsCodedNode : Tables → ℕ → Type 0
IsCodedNode p n = (node : NodeInfo) × (acts : List Act) × At p.nodes n node × IsCoded node acts

abbrev pub IsExternalNode : Tables → ℕ → Type 0
IsExternalNode p n = (node : NodeInfo) × At p.nodes n node × (node.body ≡ None)
