-- What comes of lines that are followed, one after another, from where a flight stands.
use Rattle.std.specs.Prelude.{ℕ, suc, ◌+◌, ◌≡◌, List, ◌++◌, length}
use Rattle.sot_board.specs.Standing.{Standing}
use Rattle.sot_replay.specs.GoesOn.{IsTraceOf}
use Rattle.sot_replay.specs.Replays.{Tell, IsRefusedAt}
use Rattle.sot_replay.specs.declared.fail.LineKind.{LineKind}

-- of lines of which the first has this number some are followed, and these are left, of which the
-- first has that number
pub record AreFollowed (lines : List (List ℕ)) (number : ℕ) (left : List (List ℕ)) (next : ℕ)
    (told : List (List ℕ)) : Type 0 where
  pub is : lines ≡ told ++ left
  pub next_is : next ≡ number + length told

-- the flight has gone on by the lines that are followed
pub record HasFollowed (old new : Standing) (lines : List (List ℕ)) (number : ℕ)
    (left : List (List ℕ)) (next : ℕ) : Type 0 where
  pub accepted : new.accepted ≡ old.accepted
  pub plan : new.plan ≡ old.plan
  pub told : List (List ℕ)
  pub followed : AreFollowed lines number left next told
  pub tells : (front : List (List ℕ))
      → Tell old.accepted.program old.accepted.cert.jitter old.plan front old.entries old.position
      → Tell old.accepted.program old.accepted.cert.jitter old.plan (front ++ told) new.entries
      new.position

-- the flight has gone on by the lines that are followed, to its end with the last line
pub record HasEnded (old new : Standing) (lines : List (List ℕ)) (number : ℕ) (left : List (List ℕ))
    (next : ℕ) : Type 0 where
  pub accepted : new.accepted ≡ old.accepted
  pub plan : new.plan ≡ old.plan
  pub told : List (List ℕ)
  pub followed : AreFollowed lines number left next told
  pub traces : (front : List (List ℕ))
      → Tell old.accepted.program old.accepted.cert.jitter old.plan front old.entries old.position
      → IsTraceOf old.accepted.program old.accepted.cert.jitter old.plan (front ++ told) new.entries

-- behind lines that tell the history so far they are refused at this number
abbrev pub AreRefused : Standing → List (List ℕ) → ℕ → ℕ → LineKind → Type 0
AreRefused old lines number at kind =
    (front : List (List ℕ)) → Tell old.accepted.program old.accepted.cert.jitter old.plan front
    old.entries old.position → number ≡ suc (length front)
    → IsRefusedAt old.accepted.program old.accepted.cert.jitter old.plan (front ++ lines) at kind
