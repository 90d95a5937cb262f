-- A checker's answer, seen as a check.
use Rattle.std.specs.Prelude.{ℕ, ◌<◌, List, Result, MatchResult}
use Rattle.sot_lists.specs.Places.{At}
use Rattle.sot_rta.specs.declared.refusal.Refusal.{Refusal as CodeRefusal}
use Rattle.sot_rta.specs.declared.refusal.Refusal.TheVariants as codes
use Rattle.sot_tube.specs.Refusals.{Refusal, Periods, Outputs, EmptyRegion, ClosedGap, ClosedTrap}
use Rattle.sot_tube.specs.Refusals.{ClosedLeaves, ReachGap, ReachLeaves, ReachTrap, SharedNode}
use Rattle.sot_tube.specs.Refusals.{SharedOutput, SharedPlant, ForeignInput, CodeMayTrap, NoCells}
use Rattle.sot_tube.specs.Checks.{Check}

abbrev pub refusal_view : CodeRefusal → Refusal
refusal_view (codes.Periods m n) = Periods m n
refusal_view (codes.Outputs m t) = Outputs m t
refusal_view (codes.EmptyRegion m s) = EmptyRegion m s
refusal_view (codes.ClosedGap m s) = ClosedGap m s
refusal_view (codes.ClosedTrap m i tick at) = ClosedTrap m i tick at
refusal_view (codes.ClosedLeaves m i tick area s) = ClosedLeaves m i tick area s
refusal_view (codes.ReachGap m s) = ReachGap m s
refusal_view (codes.ReachLeaves m i tick area s) = ReachLeaves m i tick area s
refusal_view (codes.ReachTrap m i tick at) = ReachTrap m i tick at
refusal_view (codes.SharedNode n a b) = SharedNode n a b
refusal_view (codes.SharedOutput t a b) = SharedOutput t a b
refusal_view (codes.SharedPlant k a b) = SharedPlant k a b
refusal_view (codes.ForeignInput m t) = ForeignInput m t
refusal_view (codes.CodeMayTrap n at kind lo hi) = CodeMayTrap n at kind lo hi
refusal_view (codes.NoCells m) = NoCells m

-- Ok exactly where the check passes, and else its refusal
abbrev pub Answers : Check → Result (Unit {0}) CodeRefusal → Type 0
Answers check result = MatchResult result (λ _. check.Passes) (λ r. check.Refuses (refusal_view r))

-- each entry before place n passes
abbrev pub PassBefore : {A : Type 0} → List A → (ℕ → A → Check) → ℕ → Type 0
PassBefore {A} xs check n = (i : ℕ) (x : A) → i < n → At xs i x → (check i x).Passes
