-- What the calls of a board change of its position.
use Rattle.std.proofs.Common.{◌≡◌, ℕ, suc, ℤ, false, List, ap, ◌∙◌, subst}
use Rattle.std.specs.Prelude.{slice_set}
use Rattle.sot_world.specs.Steps.{Event, Input, Decide, Tick, Step}
use Rattle.sot_world.specs.HistoryEntry.{Logged}
use Rattle.sot_board.specs.Standing.{Standing}
use Rattle.sot_board.specs.Flown.{IsStated, inputs_after}
use Rattle.sot_board.specs.Calls.{Logs}
use Rattle.sot_workers.specs.Instants.{IsSameInstant}

module _ (old new : Standing) (event : Event) (entry : Logged) (l : Logs old new event entry) where
  pub stepped : Step old.accepted.program old.accepted.cert.jitter old.position.at event new.position.at
  stepped = subst (λ e. Step old.accepted.program old.accepted.cert.jitter old.position.at e new.position.at) l.event_is l.flies.step

  pub stated : IsStated old.accepted.program old.plan old.position event
  stated = subst (IsStated old.accepted.program old.plan old.position) l.event_is l.flies.stated

  pub inputs_are : new.position.inputs ≡ inputs_after event old.position.inputs
  inputs_are = l.flies.inputs ∙ ap (λ e. inputs_after e old.position.inputs) l.event_is

  pub same_instant : new.position.at.time ≡ old.position.at.time → IsSameInstant old new
  same_instant time = record { accepted = l.accepted; plan = l.plan; time = time }

-- an input leaves the time
pub input_same : (old new : Standing) (topic : ℕ) (value : List ℤ) (entry : Logged) → Logs old new (Input topic value) entry → IsSameInstant old new
input_same old new topic value entry l = same_instant old new (Input topic value) entry l (ap (λ c. c.time) (stepped old new (Input topic value) entry l).rest)

-- a decision leaves time and inputs, and its module is no longer left
pub decide_same : (old new : Standing) (m : ℕ) (entry : Logged) → Logs old new (Decide m) entry
    → IsSameInstant old new × (new.position.inputs ≡ old.position.inputs) × (new.position.at.left_dm ≡ slice_set old.position.at.left_dm m false)
decide_same old new m entry l =
    let s = stepped old new (Decide m) entry l in
    (same_instant old new (Decide m) entry l (ap (λ c. c.time) s.rest), inputs_are old new (Decide m) entry l, s.left_dm)

-- a tick takes the time one further
pub tick_time : (old new : Standing) (noise : List (List ℤ)) (entry : Logged) → Logs old new (Tick noise) entry
    → new.position.at.time ≡ suc old.position.at.time
tick_time old new noise entry l = (stepped old new (Tick noise) entry l).time

pub same_again : (a b c : Standing) → IsSameInstant a b → IsSameInstant b c → IsSameInstant a c
same_again a b c x y = record { accepted = y.accepted ∙ x.accepted; plan = y.plan ∙ x.plan; time = y.time ∙ x.time }
