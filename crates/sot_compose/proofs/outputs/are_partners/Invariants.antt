use Rattle.std.proofs.Common.{ℕ, ◌<◌}
use Rattle.sot_lang.specs.declared.tables.ModuleInfo.{ModuleInfo}
use Rattle.sot_lists.specs.Places.{At}
use Rattle.sot_compose.specs.Outputs.{ArePair}
use Rattle.sot_compose.proofs.outputs.are_partners.Given as goal

-- no module before has these two
abbrev pub invariant-loop-info : goal.invariant-loop-info
invariant-loop-info l = (m : ℕ) (a : ModuleInfo) → m < l.info-index → At l.modules m a → ArePair a l.n l.other → ⊥
