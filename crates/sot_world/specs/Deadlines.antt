-- Flags of what is left, none of which has its deadline now.
use Rattle.std.specs.Prelude.{ℕ, ◌+◌, ◌≡◌, ◌≢◌, Bool, true, false, List, slice_index_or}
use Rattle.sot_lists.specs.Places.{At}
use Rattle.sot_lang.specs.declared.tables.NodeInfo.{NodeInfo}
use Rattle.sot_lang.specs.declared.tables.ModuleInfo.{ModuleInfo}
use Rattle.sot_calendar.specs.Due.{IsLastDue}

-- no node that is left has its deadline at t
abbrev pub NoNodeAtDeadline : ℕ → List NodeInfo → List Bool → ℕ → Type 0
NoNodeAtDeadline jitter nodes left t =
    (n : ℕ) (node : NodeInfo) (d : ℕ) → At nodes n node → slice_index_or left n false ≡ true
    → IsLastDue node.period node.offset t d → d + jitter ≢ t

-- no decision that is left has its deadline at t
abbrev pub NoDecisionAtDeadline : ℕ → List ModuleInfo → List Bool → ℕ → Type 0
NoDecisionAtDeadline jitter modules left t =
    (m : ℕ) (a : ModuleInfo) (d : ℕ) → At modules m a → slice_index_or left m false ≡ true
    → IsLastDue a.period a.offset t d → d + jitter ≢ t
