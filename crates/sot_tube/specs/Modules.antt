-- What the two nodes of a module have in common with it and with each other.
use Rattle.std.specs.Prelude.{ℕ, ◌⊎◌, ◌≤◌}
use Rattle.sot_lang.specs.declared.tables.NodeInfo.{NodeInfo}
use Rattle.sot_lang.specs.declared.tables.ModuleInfo.{ModuleInfo}
use Rattle.sot_lang.specs.Tables.{Tables}
use Rattle.sot_lists.specs.Places.{At}
use Rattle.sot_tube.specs.Topics.{WritesTopic}

-- the periods of the advanced and of the safe node are at most the module's
abbrev pub AreShortPeriods : Tables → ModuleInfo → Type 0
AreShortPeriods p a =
    (node : NodeInfo) → (At p.nodes a.ac node ⊎ At p.nodes a.sc node) → node.period ≤ a.period

-- the advanced and the safe node write the same topics
abbrev pub AreSameOutputs : Tables → ModuleInfo → Type 0
AreSameOutputs p a =
    (ac sc : NodeInfo) (t : ℕ) → At p.nodes a.ac ac → At p.nodes a.sc sc
    → (WritesTopic p ac t → WritesTopic p sc t) × (WritesTopic p sc t → WritesTopic p ac t)
