-- Whose turn it is, after what the caller does.
use Rattle.std.proofs.Common.{◌≡◌, ℕ, ◌+◌, ◌<◌, ⊎_elim, false, length, sym, ap, ◌∙◌, subst, arith}
use Rattle.std.specs.Prelude.{slice_index_or, slice_set}
use Rattle.std.proofs.lemmas.Bool.{cases_eq}
use Rattle.sot_lists.specs.Places.{At}
use Rattle.sot_world.specs.Configurations.{is_left}
use Rattle.sot_world.proofs.Modes.{left_same, left_none}
use Rattle.sot_board.specs.Flown.{NoInputDue}
use Rattle.sot_board.specs.Standing.{Standing}
use Rattle.sot_board.specs.Calls.{IsSettled}
use Rattle.sot_board.proofs.NothingLeft.{nodes_from, modules_from}
use Rattle.sot_ordered_board.specs.Crews.{IsOwn}
use Rattle.sot_ordered_board.specs.Order.{HaveDecided, HaveFired, HasTurn}
use Rattle.sot_workers.specs.Instants.{IsSameInstant}

-- the turn at a board
abbrev pub Turn : Standing → ℕ → Type 0
Turn b n = HasTurn b.accepted.program b.plan b.position n

pub none_due_along : (old new : Standing) → new.position.inputs ≡ old.position.inputs → new.position.at.time ≡ old.position.at.time
    → NoInputDue old.position → NoInputDue new.position
none_due_along old new inputs time none i x at now = none i x (subst (λ l. At l i x) inputs at) (now ∙ time)

pub decided_along : (old new : Standing) → new.accepted ≡ old.accepted → new.position.at.left_dm ≡ old.position.at.left_dm
    → HaveDecided old.position (length old.accepted.program.modules) → HaveDecided new.position (length new.accepted.program.modules)
decided_along old new accepted left_dm have m lt =
    ap (λ l. slice_index_or l m false) left_dm ∙ have m (subst (λ a. m < length a.program.modules) accepted lt)

-- inputs and decisions have come: the first node has its turn
pub turn_begins : (b : Standing) → NoInputDue b.position → HaveDecided b.position (length b.accepted.program.modules) → Turn b 0
turn_begins b inputs decided = record { inputs = inputs; decided = decided; fired = λ n lt own. absurd (omega (arith, lt)) }

-- nothing changed, and this node needs not fire: the next one has its turn
pub turn_passes : (b : Standing) (n : ℕ) → Turn b n → (IsOwn b.plan n → is_left b.position.at n ≡ false) → Turn b (n + 1)
turn_passes b n turn here = record {
  inputs = turn.inputs;
  decided = turn.decided;
  fired = λ k lt own.
      ⊎_elim
      (λ same. subst (λ i. is_left b.position.at i ≡ false) (sym same) (here (subst (IsOwn b.plan) same own)))
      (λ other. turn.fired k (omega (arith, lt, other)) own)
      (cases_eq k n);
}

-- the node has fired
pub turn_after : (old new : Standing) (n : ℕ) → IsSameInstant old new → new.position.inputs ≡ old.position.inputs
    → new.position.at.left_dm ≡ old.position.at.left_dm
    → new.position.at.left ≡ slice_set old.position.at.left n false → Turn old n → Turn new (n + 1)
turn_after old new n same inputs left_dm left turn = record {
  inputs = none_due_along old new inputs same.time turn.inputs;
  decided = decided_along old new same.accepted left_dm turn.decided;
  fired = λ k lt own.
      ap (λ l. slice_index_or l k false) left ∙ (⊎_elim
      (λ is. subst (λ i. slice_index_or (slice_set old.position.at.left n false) i false ≡ false) (sym is) (left_none old.position.at.left n))
      (λ other. left_same old.position.at.left n k other ∙ turn.fired k (omega (arith, lt, other)) (subst (λ f. IsOwn f k) same.plan own))
      (cases_eq k n));
}

-- where nothing is left, it is the tick's turn
pub turn_settled : (b : Standing) → IsSettled b.accepted.program b.position → Turn b (length b.accepted.program.nodes)
turn_settled b settled = record {
  inputs = settled.1;
  decided = modules_from b.accepted.program b.position.at settled.0;
  fired = λ n lt own. nodes_from b.accepted.program b.position.at settled.0 n lt;
}

-- .. and where modules and nodes of its own have come
pub turn_of_tick : (b : Standing) → NoInputDue b.position → HaveDecided b.position (length b.accepted.program.modules)
    → HaveFired b.plan b.position (length b.accepted.program.nodes) → Turn b (length b.accepted.program.nodes)
turn_of_tick b inputs decided fired = record { inputs = inputs; decided = decided; fired = fired }
