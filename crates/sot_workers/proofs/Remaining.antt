-- What is still left in an instant.
use Rattle.std.proofs.Common.{◌≡◌, ℕ, ◌+◌, ⊎_elim, Bool, false, List, sym, ◌∙◌, subst, arith}
use Rattle.std.specs.Prelude.{slice_index_or, slice_set}
use Rattle.std.proofs.lemmas.Bool.{cases_eq}
use Rattle.sot_world.proofs.Modes.{left_same, left_none}
use Rattle.sot_board.proofs.InputsDue.{no_input_left}
use Rattle.sot_board.specs.Standing.{Standing, IsStanding}
use Rattle.sot_board.specs.Flown.{FlownBy}
use Rattle.sot_board.specs.Calls.{IsSettled}
use Rattle.sot_workers.specs.Instants.{NoneLeft}

-- one more is no longer left
pub none_set : (left : List Bool) (k : ℕ) → NoneLeft left k → NoneLeft (slice_set left k false) (k + 1)
none_set left k none i lt =
    ⊎_elim
    (λ same. subst (λ n. slice_index_or (slice_set left k false) n false ≡ false) (sym same) (left_none left k))
    (λ other. left_same left k i other ∙ none i (omega (arith, lt, other)))
    (cases_eq i k)

pub none_more : (left : List Bool) (k : ℕ) → NoneLeft left k → slice_index_or left k false ≡ false → NoneLeft left (k + 1)
none_more left k none here i lt =
    ⊎_elim
    (λ same. subst (λ n. slice_index_or left n false ≡ false) (sym same) here)
    (λ other. none i (omega (arith, lt, other)))
    (cases_eq i k)

-- a settled board at the horizon has flown its flight
pub flown_whole :
    (b : Standing) → IsStanding b → b.position.at.time ≡ b.plan.horizon → IsSettled b.accepted.program b.position
    → FlownBy b.accepted.program b.accepted.cert.jitter b.plan b.entries
flown_whole b stands end settled = (
  b.position,
  stands.flown,
  record { time = end; inputs = no_input_left b stands end settled.1; nothing = settled.0 },
)
