-- A decision tells its mode, and a firing whether its node is enabled.
use Rattle.std.proofs.Common.{◌≡◌, ℕ, ℤ, Bool, Option, List, sym, ap, ◌∙◌}
use Rattle.sot_lang.specs.Tables.{Tables}
use Rattle.sot_world.specs.Configurations.{Configuration, mode_of}
use Rattle.sot_world.specs.declared.mode.Mode.{Mode}
use Rattle.sot_world.specs.Steps.{Event, Input, Code, Guest, Decide, Tick, Step, is_enabled, allowed_by}
use Rattle.sot_world.specs.Outcomes.{Recorded, ModuleDecided, NodeFired, Records}
use Rattle.sot_world.specs.HistoryEntry.{FireAt, DecideAt}
use Rattle.sot_board.specs.Flown.{Tells}
use Rattle.sot_law_flights.specs.ToldModes.{DecisionsTellModes, FiringsTellWhetherEnabled}
use Rattle.sot_law_flights.proofs.Told.{led_last}

module _ (p : Tables) (jitter : ℕ) where
  -- an entry of a decision comes of a decision alone
  one_mode : (C D : Configuration) (e : Event) (r : Recorded) (time m : ℕ) (mode : Mode) → Step p jitter C e D → Records p C e D r
      → Tells C e r D (DecideAt time m mode) → (time ≡ D.time) × (mode ≡ mode_of D m)
  one_mode C D (Input topic value) r time m mode step records is = absurd cc
  one_mode C D (Code n) r time m mode step records (draft, enabled, was, is) = absurd cc
  one_mode C D (Guest n d) r time m mode step records (draft, enabled, was, is) = absurd cc
  one_mode C D (Decide k) r time m mode step records (told, was, is) =
      let same : ModuleDecided told ≡ ModuleDecided (mode_of D k) = sym was ∙ records in
      let a : told ≡ mode_of D k = cc in
      let b : mode ≡ told = cc in
      let c : m ≡ k = cc in
      let d : time ≡ C.time = cc in
      (d ∙ sym (ap (λ (c : Configuration). c.time) step.rest), b ∙ a ∙ ap (mode_of D) (sym c))
  one_mode C D (Tick noise) r time m mode step records is = absurd cc

  -- a firing, of a coded node or of any other
  one_enabled : (C D : Configuration) (e : Event) (r : Recorded) (time n : ℕ) (draft : List (Option ℤ)) (enabled : Bool) → Step p jitter C e D
      → Records p C e D r → Tells C e r D (FireAt time n draft enabled) → (time ≡ D.time) × (enabled ≡ is_enabled p D n)
  one_enabled C D (Input topic value) r time n draft enabled step records is = absurd cc
  one_enabled C D (Code k) r time n draft enabled step records (told, on, was, is) =
      let same : NodeFired told on ≡ NodeFired records.fired.draft (is_enabled p C k) = sym was ∙ records.recorded in
      let a : on ≡ is_enabled p C k = cc in
      let b : enabled ≡ on = cc in
      let c : n ≡ k = cc in
      let d : time ≡ C.time = cc in
      (d ∙ sym step.fires.time, b ∙ a ∙ ap (λ ms. allowed_by p.modules ms k) (sym step.fires.modes) ∙ ap (is_enabled p D) (sym c))
  one_enabled C D (Guest k given) r time n draft enabled step records (told, on, was, is) =
      let same : NodeFired told on ≡ NodeFired given (is_enabled p C k) = sym was ∙ records in
      let a : on ≡ is_enabled p C k = cc in
      let b : enabled ≡ on = cc in
      let c : n ≡ k = cc in
      let d : time ≡ C.time = cc in
      (d ∙ sym step.fires.time, b ∙ a ∙ ap (λ ms. allowed_by p.modules ms k) (sym step.fires.modes) ∙ ap (is_enabled p D) (sym c))
  one_enabled C D (Decide m) r time n draft enabled step records (told, was, is) = absurd cc
  one_enabled C D (Tick noise) r time n draft enabled step records is = absurd cc

pub modes_told : DecisionsTellModes
modes_told p jitter f entries time m mode Q (P, start, led) =
    let (R, front, last) = led_last p jitter f P entries (DecideAt time m mode) Q led in
    one_mode p jitter R.at Q.at last.event last.recorded time m mode last.step last.records last.tells

pub enabled_told : FiringsTellWhetherEnabled
enabled_told p jitter f entries time n draft enabled Q (P, start, led) =
    let (R, front, last) = led_last p jitter f P entries (FireAt time n draft enabled) Q led in
    one_enabled p jitter R.at Q.at last.event last.recorded time n draft enabled last.step last.records last.tells
