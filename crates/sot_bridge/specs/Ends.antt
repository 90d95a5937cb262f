-- How a call of `bridge` may end: the status, and what was read and written.
use Rattle.std.specs.Prelude.{◌≡◌, ◌≢◌, ℕ, ◌+◌, ◌<◌, ◌≤◌, ◌⊎◌, List, length, String}
use Rattle.std.specs.Prelude.{IfSome}
use Rattle.std.specs.Io.KnownBytes.{Keeps}
use Rattle.std.proofs.Common.{Global}
use Rattle.sot_ports.specs.Faults.{Rose}
use Rattle.sot_ports.specs.Outside.{Outside, Writes, WritesPart}
use Rattle.sot_ports.specs.Whole.{ReadsAll, ReadsCount}
use Rattle.sot_cli.specs.Texts.{input_limit, long_text}
use Rattle.sot_bridge.specs.Words.{Asks}
use Rattle.sot_bridge.specs.Answers.{Accepts, Refutes, Rejects, Replies}
use Rattle.sot_bridge.specs.Texts.{usage_text}

-- the words ask for a bridge, or for none
abbrev pub AskSome : List (String Global) → Type 0
AskSome words = (from to : List ℕ) × (delay : ℕ) × Asks words from to delay

abbrev pub AskNone : List (String Global) → Type 0
AskNone words = (from to : List ℕ) (delay : ℕ) → ¬ (Asks words from to delay)

-- a bridge was asked, and this is said of all bytes that the source had left, at most 16 MiB
abbrev pub Done : (List ℕ → List ℕ → ℕ → List ℕ → List ℕ → Type 0) → List (String Global) → Outside
    → Outside → List ℕ → Type 0
Done Says words before after text =
    (from to : List ℕ) × (delay : ℕ) × Asks words from to delay
    × ((bytes : List ℕ) × ReadsAll before.left after.left bytes × (length bytes ≤ input_limit)
    × Says from to delay bytes text)

-- the words ask for no bridge, and the usage is said
abbrev pub IsUsage : List (String Global) → List ℕ → Type 0
IsUsage words text = AskNone words × (text ≡ usage_text)

-- a bridge was asked and one byte more than 16 MiB was read, no more: this is said
abbrev pub IsTooLong : List (String Global) → Outside → Outside → List ℕ → Type 0
IsTooLong words before after text =
    AskSome words × ReadsCount before.left after.left (input_limit + 1) × (text ≡ long_text)

-- the text that belongs to status 0, 1, 2, 3 or 7
abbrev pub IsAnswer : List (String Global) → Outside → Outside → List ℕ → Type 0
IsAnswer words before after text =
    Done Accepts words before after text ⊎ Done Refutes words before after text
    ⊎ IsUsage words text ⊎ Done Rejects words before after text
    ⊎ IsTooLong words before after text

-- the status that words and bytes alone decide
abbrev pub Decides : List (String Global) → List ℕ → ℕ → Type 0
Decides words bytes status =
    ((status ≡ 2) × AskNone words)
    ⊎ ((status ≡ 7) × AskSome words × (input_limit < length bytes))
    ⊎ ((from to : List ℕ) × (delay : ℕ) × Asks words from to delay × (length bytes ≤ input_limit)
    × ((text : List ℕ) × Replies from to delay bytes status text))

-- the end of a call, status by status
pub record Ends (words : List (String Global)) (before after : Outside) (status : ℕ) : Type 0 where
  pub known : status ≤ 7
  pub accepted : status ≡ 0 → Writes before after (Done Accepts words before after)
  pub refused : status ≡ 1 → Writes before after (Done Refutes words before after)
  pub usage : status ≡ 2 → Writes before after (IsUsage words)
  pub rejected : status ≡ 3 → Writes before after (Done Rejects words before after)
  pub read_fault : status ≡ 4 → AskSome words × Rose before.read_faults after.read_faults
  pub write_fault : status ≡ 5 → Rose before.write_faults after.write_faults
      × WritesPart before after (IsAnswer words before after)
  pub too_long : status ≡ 7 → Writes before after (IsTooLong words before after)
  -- but at status 4 no read failed, and but at status 5 no write
  pub read_well : status ≢ 4 → after.read_faults ≡ before.read_faults
  pub wrote_well : status ≢ 5 → after.write_faults ≡ before.write_faults
  -- status 6 is want of memory, which may come at any time before the writing
  pub unwritten : (status ≡ 4) ⊎ (status ≡ 6) → Keeps before.held after.held
  -- with no fault and memory enough, it is the status that words and bytes decide
  pub decided : (¬ (Rose before.read_faults after.read_faults))
      → (¬ (Rose before.write_faults after.write_faults)) → status ≢ 6
      → IfSome before.left (λ bytes. (s : ℕ) → Decides words bytes s → status ≡ s)
