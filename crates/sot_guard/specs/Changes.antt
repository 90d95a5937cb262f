-- What the calls of a guard change. Inputs and the firings of external nodes are steps of the
-- semantics, and so is all else while the models are trusted.
use Rattle.std.specs.Prelude.{ℕ, suc, ℤ, Bool, true, false, List, [], None, ◌≡◌, ◌⊎◌, ◌↔◌}
use Rattle.std.specs.Prelude.{MatchResult, replicate, slice_set}
use Rattle.sot_lists.specs.Places.{At}
use Rattle.sot_calendar.specs.Due.{IsDue}
use Rattle.sot_lang.specs.declared.act.Act.{Act}
use Rattle.sot_lang.specs.declared.tables.NodeInfo.{NodeInfo}
use Rattle.sot_lang.specs.declared.tables.ModuleInfo.{ModuleInfo}
use Rattle.sot_lang.specs.Tables.{Tables}
use Rattle.sot_lang.specs.TableRules.{IsCoded}
use Rattle.sot_lang.specs.Ranges.{local_ranges, write_ranges}
use Rattle.sot_lang.specs.Bodies.{execution}
use Rattle.sot_lang.specs.Readings.{reading}
use Rattle.sot_code.specs.Recorded.{in_slots}
use Rattle.sot_world.specs.declared.mode.Mode.TheVariants.{Sc}
use Rattle.sot_world.specs.Configurations.{Configuration, is_left, is_left_dm}
use Rattle.sot_world.specs.Configurations.{mode_of, locals_of}
use Rattle.sot_world.specs.Steps.{Fires, Decides, is_enabled}
use Rattle.sot_world.specs.declared.outcome.Firing.{Firing}
use Rattle.sot_law_observed_runs.specs.Observed.{ObservedTick}
use Rattle.sot_guard.specs.declared.outside.Outside.{Outside}
use Rattle.sot_guard.specs.Outside.{IsFirstOutside}
use Rattle.sot_guard.specs.Guarding.{Guarding}

-- a module, whose decision is left, stays in its mode
pub record StaysInMode (p : Tables) (m : ℕ) (C D : Configuration) : Type 0 where
  pub module_info : ModuleInfo
  pub is : At p.modules m module_info
  pub was_left : is_left_dm C m ≡ true
  pub left_dm : D.left_dm ≡ slice_set C.left_dm m false
  pub rest : D ≡ record C { left_dm = D.left_dm }

-- a decision: one of the semantics while the models are trusted, and none while they are not
abbrev pub DecidesWhere : Bool → Tables → ℕ → ℕ → Configuration → Configuration → Type 0
DecidesWhere true p jitter m C D = Decides p jitter m C D
DecidesWhere false p jitter m C D = StaysInMode p m C D

-- a coded node fires with what its body gives, told in eight slots; and if the body traps, which it
-- can only where the models are not trusted, with nothing drafted and its locals as they were
pub record FiresCode (p : Tables) (n : ℕ) (C D : Configuration) (firing : Firing) : Type 0 where
  pub node : NodeInfo
  pub is : At p.nodes n node
  pub acts : List Act
  pub coded : IsCoded node acts
  pub ends : MatchResult
      (execution acts (local_ranges node) (write_ranges p node) (reading node C.scalars C.points)
      (locals_of C n))
      (λ fired. Fires p n node fired.locals fired.draft C D × (firing.draft ≡ in_slots fired.draft))
      (λ trap. Fires p n node (locals_of C n) [] C D × (firing.draft ≡ replicate 8 None))
  pub enabled : firing.enabled ≡ is_enabled p C n

-- after a tick all plants are observed at these points: the time rises by 1, and what is due then
-- is left to fire
pub record MovesTo (p : Tables) (next : List (List ℤ)) (C D : Configuration) : Type 0 where
  pub time : D.time ≡ suc C.time
  pub left : (n : ℕ) (node : NodeInfo) → At p.nodes n node
      → (is_left D n ≡ true) ↔ ((is_left C n ≡ true) ⊎ IsDue node.period node.offset D.time)
  pub left_dm : (m : ℕ) (a : ModuleInfo) → At p.modules m a
      → (is_left_dm D m ≡ true) ↔ ((is_left_dm C m ≡ true) ⊎ IsDue a.period a.offset D.time)
  pub scalars : D.scalars ≡ C.scalars
  pub locals : D.locals ≡ C.locals
  pub points : D.points ≡ next

-- the models are trusted no more: every module is in mode Sc, and nothing else changes
pub record Distrusts (old new : Guarding) : Type 0 where
  pub accepted : new.accepted ≡ old.accepted
  pub is : new.trusted ≡ false
  pub modes : (m : ℕ) → mode_of new.at m ≡ Sc
  pub rest : new.at ≡ record old.at { modes = new.at.modes }

-- a node is the safe one of some module
abbrev pub IsSafeNode : List ModuleInfo → ℕ → Type 0
IsSafeNode modules n = (m : ℕ) × (a : ModuleInfo) × At modules m a × (a.sc ≡ n)

-- the safe node of each module is left to fire, whether it is due or not
pub record AsksSafeNodes (old new : Guarding) : Type 0 where
  pub left : (n : ℕ) → (is_left new.at n ≡ true)
      ↔ ((is_left old.at n ≡ true) ⊎ IsSafeNode old.accepted.program.modules n)
  pub rest : new ≡ record old { at = record old.at { left = new.at.left } }

-- no plant is told to be outside: while the models are trusted, the tick is an observed one
pub record GoesOn (old new : Guarding) : Type 0 where
  pub trusted : new.trusted ≡ old.trusted
  pub modes : new.at.modes ≡ old.at.modes
  pub observed : old.trusted ≡ true
      → ObservedTick old.accepted.program old.accepted.cert.jitter old.at new.at

-- a plant is told to be outside, which ends the trust in the models: every module is in mode Sc
pub record Withdraws (old new : Guarding) (next : List (List ℤ)) (o : Outside) : Type 0 where
  pub was : old.trusted ≡ true
  pub is : new.trusted ≡ false
  pub outside : IsFirstOutside old.accepted.program old.at.scalars old.at.points next o
  pub modes : (m : ℕ) → mode_of new.at m ≡ Sc
