-- What is looked at before regions are searched.
use Rattle.std.specs.Prelude.{ℕ, ◌⊎◌, ◌≤◌}
use Rattle.sot_lists.specs.Places.{At}
use Rattle.sot_lang.specs.declared.tables.NodeInfo.{NodeInfo}
use Rattle.sot_lang.specs.declared.tables.ModuleInfo.{ModuleInfo}
use Rattle.sot_lang.specs.Tables.{Tables}
use Rattle.sot_tube.specs.Checks.{Check}
use Rattle.sot_compose.specs.declared.looked.LookedAt.TheVariants.{SafeAlone}
use Rattle.sot_compose.specs.Frames.{frame, without_cells}

-- a jitter is not below the period of some node, or of some module
abbrev pub IsNodeLate : Tables → ℕ → Type 0
IsNodeLate t jitter = (n : ℕ) × (node : NodeInfo) × At t.nodes n node × (node.period ≤ jitter)

abbrev pub IsModuleLate : Tables → ℕ → Type 0
IsModuleLate t jitter = (m : ℕ) × (a : ModuleInfo) × At t.modules m a × (a.period ≤ jitter)

abbrev pub IsLate : Tables → ℕ → Type 0
IsLate t jitter = IsNodeLate t jitter ⊎ IsModuleLate t jitter

-- the conditions of one module, and of a program, that speak of no cells, with `safer` read as
-- `safe`
abbrev pub frame_as_asked : Tables → ℕ → ModuleInfo → Check
frame_as_asked t m a = frame SafeAlone t m a

abbrev pub as_asked : Tables → Check
as_asked t = without_cells SafeAlone t

-- regions are searched: the jitter is below all periods, and these conditions hold
abbrev pub IsSearched : Tables → ℕ → Type 0
IsSearched t jitter = (¬ (IsLate t jitter)) × (as_asked t).Passes
