-- A history in order goes on by an event that may come next.
use Rattle.std.proofs.Common.{◌≡◌, ℕ, ℤ, List, [], ◌∷◌, ◌++◌, length, refl, sym, subst}
use Rattle.sot_lang.specs.Tables.{Tables}
use Rattle.sot_lang.specs.Ticks.{joined}
use Rattle.sot_tube.specs.Admitted.{Admitted}
use Rattle.sot_world.specs.HistoryEntry.{Logged, InputAt, FireAt, DecideAt, TickAt}
use Rattle.sot_world.specs.Steps.{Event, Input, Code, Decide, Tick}
use Rattle.sot_world.specs.declared.mode.Mode.{Mode}
use Rattle.sot_flight.specs.Plans.{Plan}
use Rattle.sot_board.specs.declared.receipt.Receipt.{Receipt}
use Rattle.sot_board.specs.Flown.{Position, NoInputDue, Tells, Flies}
use Rattle.sot_board.specs.declared.view.View.{View}
use Rattle.sot_board.specs.declared.commit.Commit.{Commit}
use Rattle.sot_board.specs.declared.commit.Commit.TheVariants.{Done, Again}
use Rattle.sot_board.specs.Views.{IsView, viewed_node}
use Rattle.sot_board.specs.Commits.{IsCurrent, MatchCommit}
use Rattle.sot_board.specs.Standing.{Standing}
use Rattle.sot_board.specs.Calls.{Logs, LogsInput, LogsFiring}
use Rattle.sot_ordered_board.specs.Crews.{IsOwn}
use Rattle.sot_ordered_board.specs.Order.{HaveDecided, HasTurn, IsNext, LeadsInOrder, FlownInOrder, IsInOrder}

leads_more : (p : Tables) (j : ℕ) (f : Plan) (P : Position) (es : List Logged) (Q R : Position) (entry : Logged) → LeadsInOrder p j f P es Q
    → IsNext p f Q entry → Flies p j f Q entry R → LeadsInOrder p j f P (es ++ entry ∷ []) R
leads_more p j f P [] Q R entry led next flies =
    subst (λ S. IsNext p f S entry × ((T : Position) × Flies p j f S entry T × (T ≡ R))) (sym led) (next, (R, flies, refl))
leads_more p j f P (e ∷ es) Q R entry (one, (S, flew, led)) next flies = (one, (S, flew, leads_more p j f S es Q R entry led next flies))

-- one event more
goes_on : (old new : Standing) (event : Event) (entry : Logged) → IsInOrder old → Logs old new event entry
    → IsNext old.accepted.program old.plan old.position entry → IsInOrder new
goes_on old new event entry (P, start, led) l next =
    let p = old.accepted.program in
    let j = old.accepted.cert.jitter in
    let es = old.entries ++ entry ∷ [] in
    let one : FlownInOrder p j old.plan es new.position = (P, start, leads_more p j old.plan P old.entries old.position new.position entry led next l.flies) in
    subst (λ x. FlownInOrder new.accepted.program new.accepted.cert.jitter new.plan x new.position) (sym l.entries)
    (subst (λ (a : Admitted). FlownInOrder a.program a.cert.jitter new.plan es new.position) (sym l.accepted)
    (subst (λ (g : Plan). FlownInOrder p j g es new.position) (sym l.plan) one))

-- an input
pub input_goes : (old new : Standing) → IsInOrder old → LogsInput old new → IsInOrder new
input_goes old new order (topic, value, entry, l) =
    let is : entry ≡ InputAt old.position.at.time topic value =
    subst (λ e. Tells old.position.at e l.flies.recorded new.position.at entry) l.event_is l.flies.tells in
    goes_on old new (Input topic value) entry order l (subst (IsNext old.accepted.program old.plan old.position) (sym is) tt)

-- a decision
pub decide_goes : (old new : Standing) (m : ℕ) (mode : Mode) → IsInOrder old → Logs old new (Decide m) (DecideAt old.position.at.time m mode)
    → NoInputDue old.position → HaveDecided old.position m → IsInOrder new
decide_goes old new m mode order l inputs before = goes_on old new (Decide m) (DecideAt old.position.at.time m mode) order l (inputs, before)

-- a firing
pub firing_goes : (old new : Standing) (n : ℕ) (event : Event) (receipt : Receipt) → IsInOrder old → LogsFiring old new n event receipt
    → (IsOwn old.plan n → HasTurn old.accepted.program old.plan old.position n) → IsInOrder new
firing_goes old new n event receipt order did turn =
    goes_on old new event (FireAt old.position.at.time n receipt.draft did.enabled) order did.logs turn

-- a tick
pub tick_goes : (old new : Standing) (noise : List (List ℤ)) (entry : Logged) → IsInOrder old → Logs old new (Tick noise) entry
    → HasTurn old.accepted.program old.plan old.position (length old.accepted.program.nodes) → IsInOrder new
tick_goes old new noise entry order l turn =
    let is : entry ≡ TickAt old.position.at.time (joined noise) (joined new.position.at.points) =
    subst (λ e. Tells old.position.at e l.flies.recorded new.position.at entry) l.event_is l.flies.tells in
    goes_on old new (Tick noise) entry order l (subst (IsNext old.accepted.program old.plan old.position) (sym is) turn)

-- a commit, which may find that the view is an older one
pub commit_goes : (old new : Standing) (v : View) (result : Commit) → IsInOrder old
    → HasTurn old.accepted.program old.plan old.position (viewed_node v)
    → MatchCommit result (λ receipt. IsCurrent old v × LogsFiring old new (viewed_node v) (Code (viewed_node v)) receipt)
    (λ again. (IsCurrent old v → ⊥) × (new ≡ old) × IsView old.accepted.program old.entries old.position (viewed_node v) again)
    → IsInOrder new
commit_goes old new v (Done receipt) order turn did = firing_goes old new (viewed_node v) (Code (viewed_node v)) receipt order did.1 (λ own. turn)
commit_goes old new v (Again view) order turn did = subst IsInOrder (sym did.1) order
