-- Without jitter: what is left is due now, and the counts until the next firing are those of the
-- calendar.
use Rattle.std.specs.Prelude.{ℕ, ◌≡◌, ◌↔◌, true, false}
use Rattle.sot_lang.specs.declared.tables.NodeInfo.{NodeInfo}
use Rattle.sot_lang.specs.declared.tables.ModuleInfo.{ModuleInfo}
use Rattle.sot_lang.specs.Tables.{Tables}
use Rattle.sot_lists.specs.Places.{At}
use Rattle.sot_calendar.specs.Due.{IsDue, IsDueIn, IsUntil, IsStillDue}
use Rattle.sot_world.specs.Configurations.{Configuration, is_left, is_left_dm}
use Rattle.sot_world.specs.Steps.{MayTick}
use Rattle.sot_world.specs.Invariant.{KeepsInvariant}

-- what is left is due at the present time
abbrev pub LeftIsDue : Type 0
LeftIsDue = (period offset t : ℕ) → IsStillDue 0 period offset t ↔ IsDue period offset t

-- what is left fires in 0 ticks
abbrev pub LeftIsNow : Type 0
LeftIsNow =
    (period offset t r : ℕ) → IsDue period offset t → IsUntil 0 true period offset t r ↔ (r ≡ 0)

-- what is not left fires in the least number of ticks, at least 1, after which it is due
abbrev pub NotLeftIsNext : Type 0
NotLeftIsNext =
    (period offset t r : ℕ) → IsUntil 0 false period offset t r ↔ IsDueIn period offset t r

-- nothing is left to fire
pub record NothingLeft (p : Tables) (C : Configuration) : Type 0 where
  pub nodes : (n : ℕ) (node : NodeInfo) → At p.nodes n node → is_left C n ≡ false
  pub modules : (m : ℕ) (a : ModuleInfo) → At p.modules m a → is_left_dm C m ≡ false

-- a tick may come exactly where nothing is left
abbrev pub TicksWhereNothingIsLeft : Type 0
TicksWhereNothingIsLeft =
    (p : Tables) (C : Configuration) → KeepsInvariant p 0 C → MayTick p 0 C ↔ NothingLeft p C
