use Rattle.std.proofs.Common.{ℕ, ◌<◌}
use Rattle.sot_lang.specs.declared.tables.ModuleInfo.{ModuleInfo}
use Rattle.sot_lists.specs.Places.{At}
use Rattle.sot_compose.specs.Parts.{Uses, IsShared}
use Rattle.sot_compose.proofs.parts.are_in_order.Given as goal

-- the modules before use parts below the next, and share none
abbrev pub invariant-loop-info : goal.invariant-loop-info
invariant-loop-info l = record {
  below : (m : ℕ) (a : ModuleInfo) (x : ℕ) → m < l.info-index → At l.modules m a → Uses l.part a x → x < l.next;
  apart : (x m n : ℕ) → m < n → n < l.info-index → IsShared l.part l.modules x m n → ⊥;
}
