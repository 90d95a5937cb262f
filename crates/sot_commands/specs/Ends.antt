-- How a call of `soter` may end: the status, and what was read and written.
use Rattle.std.specs.Prelude.{◌≡◌, ◌≢◌, ℕ, ◌+◌, ◌<◌, ◌≤◌, ◌⊎◌, List, [], Option, IfSome, length}
use Rattle.std.specs.Prelude.{String}
use Rattle.std.specs.Io.KnownBytes.{Keeps}
use Rattle.std.proofs.Common.{Global}
use Rattle.sot_ports.specs.Faults.{Rose}
use Rattle.sot_ports.specs.Outside.{Outside, Writes, WritesPart}
use Rattle.sot_ports.specs.Whole.{ReadsAll, ReadsCount}
use Rattle.sot_cli.specs.Texts.{input_limit, long_text}
use Rattle.sot_commands.specs.Texts.{usage_text}
use Rattle.sot_commands.specs.declared.words.Command.{Command}
use Rattle.sot_commands.specs.declared.words.Command.TheVariants.{Check, Fly, Replay, Format}
use Rattle.sot_commands.specs.declared.words.Command.TheVariants.{Recover, Watch, Certify}
use Rattle.sot_commands.specs.declared.words.Command.TheVariants.{Make, Soak}
use Rattle.sot_commands.specs.Words.{Asks, AsksReader, AsksNone}
use Rattle.sot_commands.specs.Answers.{Accepts, Refutes, Rejects, Replies, given_to}
use Rattle.sot_commands.specs.Answers.{IsFlownWatched}

-- what a command takes of a source: all that it has left; and nothing for `make` and `soak`, which
-- have no input
abbrev pub Takes : Command → Option (List ℕ) → Option (List ℕ) → List ℕ → Type 0
Takes Check left after bytes = ReadsAll left after bytes
Takes Fly left after bytes = ReadsAll left after bytes
Takes Replay left after bytes = ReadsAll left after bytes
Takes Recover left after bytes = ReadsAll left after bytes
Takes (Watch formula) left after bytes = ReadsAll left after bytes
Takes Format left after bytes = ReadsAll left after bytes
Takes Certify left after bytes = ReadsAll left after bytes
Takes (Make n seed) left after bytes = (bytes ≡ []) × (after ≡ left)
Takes (Soak n seed) left after bytes = (bytes ≡ []) × (after ≡ left)

-- a command was asked, and this is said of all that it took, at most 16 MiB
abbrev pub Done : (Command → List ℕ → List ℕ → Type 0) → List (String Global) → Outside → Outside
    → List ℕ → Type 0
Done Says words before after text =
    (command : Command) × Asks words command
    × ((bytes : List ℕ) × Takes command before.left after.left bytes × (length bytes ≤ input_limit)
    × Says command bytes text)

-- the words ask for no command, and the usage is said
abbrev pub IsUsage : List (String Global) → List ℕ → Type 0
IsUsage words text = AsksNone words × (text ≡ usage_text)

-- a command that reads was asked and one byte more than 16 MiB was read, no more: this is said
abbrev pub IsTooLong : List (String Global) → Outside → Outside → List ℕ → Type 0
IsTooLong words before after text =
    AsksReader words × ReadsCount before.left after.left (input_limit + 1) × (text ≡ long_text)

-- the text that belongs to status 0, 1, 2, 3 or 7
abbrev pub IsAnswer : ℕ → List (String Global) → Outside → Outside → List ℕ → Type 0
IsAnswer guests words before after text =
    Done (Accepts guests) words before after text ⊎ Done (Refutes guests) words before after text
    ⊎ IsUsage words text
    ⊎ Done (Rejects guests) words before after text ⊎ IsTooLong words before after text

-- the status that words, bytes and the number of guests alone decide
abbrev pub Decides : ℕ → List (String Global) → List ℕ → ℕ → Type 0
Decides guests words bytes status =
    ((status ≡ 2) × AsksNone words)
    ⊎ ((status ≡ 7) × AsksReader words × (input_limit < length bytes))
    ⊎ ((command : Command) × Asks words command × (length (given_to command bytes) ≤ input_limit)
    × ((text : List ℕ) × Replies guests command (given_to command bytes) status text))

-- there are guests, the words ask for a watched flight, and the bytes are those of one that is
-- flown: whether its formula holds, the history decides, of which there may be several
abbrev pub FliesWatched : ℕ → List (String Global) → List ℕ → Type 0
FliesWatched guests words bytes =
    (guests ≢ 0)
    × ((formula : _) × Asks words (Watch formula) × (length bytes ≤ input_limit)
    × IsFlownWatched formula.now guests bytes)

-- the end of a call with so many guests, status by status
pub record Ends (guests : ℕ) (words : List (String Global)) (before after : Outside) (status : ℕ) :
    Type 0 where
  pub known : status ≤ 7
  pub accepted : status ≡ 0 → Writes before after (Done (Accepts guests) words before after)
  pub refused : status ≡ 1 → Writes before after (Done (Refutes guests) words before after)
  pub usage : status ≡ 2 → Writes before after (IsUsage words)
  pub rejected : status ≡ 3 → Writes before after (Done (Rejects guests) words before after)
  pub read_fault : status ≡ 4 → AsksReader words × Rose before.read_faults after.read_faults
  pub write_fault : status ≡ 5 → Rose before.write_faults after.write_faults
      × WritesPart before after (IsAnswer guests words before after)
  pub too_long : status ≡ 7 → Writes before after (IsTooLong words before after)
  -- but at status 4 no read failed, and but at status 5 no write
  pub read_well : status ≢ 4 → after.read_faults ≡ before.read_faults
  pub wrote_well : status ≢ 5 → after.write_faults ≡ before.write_faults
  -- status 6 is want of memory, which may come at any time before the writing
  pub unwritten : (status ≡ 4) ⊎ (status ≡ 6) → Keeps before.held after.held
  -- with no fault and memory enough, it is the status that words, bytes and the number of guests
  -- decide; but where a watched flight is flown with guests it is 0 or 1, by the history that is
  -- written
  pub decided : (¬ (Rose before.read_faults after.read_faults))
      → (¬ (Rose before.write_faults after.write_faults)) → status ≢ 6
      → IfSome before.left (λ bytes. (s : ℕ) → Decides guests words bytes s
      → (status ≡ s) ⊎ ((status ≤ 1) × (s ≤ 1) × FliesWatched guests words bytes))
