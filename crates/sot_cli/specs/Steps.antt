-- What the functions below a program's call promise it: an answer to its input, or silence.
use Rattle.std.specs.Prelude.{◌≡◌, ℕ, ◌+◌, ◌≤◌, ◌⊎◌, List, Option, length}
use Rattle.sot_ports.specs.Faults.{Rose}
use Rattle.sot_ports.specs.Whole.{ReadsAll, ReadsCount}
use Rattle.sot_cli.specs.Texts.{input_limit, long_text}

-- what is said of all bytes that are read, or of too many
abbrev pub InputAnswer : (List ℕ → ℕ → List ℕ → Type 0) → Option (List ℕ) → Option (List ℕ) → ℕ
    → List ℕ → Type 0
InputAnswer Replies left left_after status text =
    ((bytes : List ℕ) × ReadsAll left left_after bytes × (length bytes ≤ input_limit)
    × Replies bytes status text)
    ⊎ ((status ≡ 7) × ReadsCount left left_after (input_limit + 1) × (text ≡ long_text))

-- why nothing is said: memory, with no fault of the source; or the source failed, which only a call
-- that reads can have seen
abbrev pub SilentWhere : Type 0 → ℕ → ℕ → ℕ → Type 0
SilentWhere Reads faults faults_after status =
    ((status ≡ 6) × (faults_after ≡ faults)) ⊎ ((status ≡ 4) × Reads × Rose faults faults_after)
