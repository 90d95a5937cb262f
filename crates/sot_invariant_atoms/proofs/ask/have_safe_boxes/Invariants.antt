use Rattle.std.proofs.Common.{◌≢◌, ℕ, ◌<◌, []}
use Rattle.sot_lists.specs.Places.{At}
use Rattle.sot_lang.specs.declared.tables.ModuleInfo.{ModuleInfo}
use Rattle.sot_invariant_atoms.proofs.ask.have_safe_boxes.Given as goal

abbrev pub invariant-loop-info : goal.invariant-loop-info
invariant-loop-info l = (m : ℕ) (a : ModuleInfo) → m < l.info-index → At l.program.modules m a → a.safe.boxes ≢ []
