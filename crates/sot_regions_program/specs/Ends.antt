-- How a call of `regions` may end: the status, and what was read and written.
use Rattle.std.specs.Prelude.{◌≡◌, ◌≢◌, ℕ, ◌+◌, ◌<◌, ◌≤◌, ◌⊎◌, List, length, String}
use Rattle.std.specs.Prelude.{IfSome, Ok}
use Rattle.std.specs.Io.KnownBytes.{Keeps}
use Rattle.std.proofs.Common.{Global}
use Rattle.sot_ports.specs.Faults.{Rose}
use Rattle.sot_ports.specs.Outside.{Outside, Writes, WritesPart}
use Rattle.sot_ports.specs.Whole.{ReadsAll, ReadsCount}
use Rattle.sot_lists.specs.Places.{At}
use Rattle.sot_syntax_tree.specs.Trees.{Program}
use Rattle.sot_lang.specs.declared.cert.Cert.{Cert}
use Rattle.sot_lang.specs.declared.tables.ModuleInfo.{ModuleInfo}
use Rattle.sot_lang.specs.Tables.{Tables}
use Rattle.sot_tube.specs.Refusals.{Refusal}
use Rattle.sot_certify.specs.Certifying.{Certifies}
use Rattle.sot_report.specs.declared.fault.Fault.{Fault}
use Rattle.sot_regions_program.specs.Words.{Asks, AsksNone}
use Rattle.sot_regions_program.specs.Lines.{usage_text}
use Rattle.sot_cli.specs.Texts.{input_limit, long_text}
use Rattle.sot_regions_program.specs.AsAsked.{IsLate, as_asked, IsSearched}
use Rattle.sot_regions_program.specs.Answers.{SpellsTyped, AnswersTyped, Rejects}
use Rattle.sot_regions_program.specs.Answers.{HasProgramFault, HasNoRegion}

-- the words ask for some jitter
abbrev pub AsksSome : List (String Global) → Type 0
AsksSome words = (jitter : ℕ) × Asks words jitter

-- a jitter was asked, and this is said of all bytes that the source had left, at most 16 MiB
abbrev pub Done : (ℕ → List ℕ → List ℕ → Type 0) → List (String Global) → Outside → Outside
    → List ℕ → Type 0
Done Says words before after text =
    (jitter : ℕ) × Asks words jitter
    × ((bytes : List ℕ) × ReadsAll before.left after.left bytes × (length bytes ≤ input_limit)
    × Says jitter bytes text)

-- the words ask for none, and the usage is said
abbrev pub IsUsage : List (String Global) → List ℕ → Type 0
IsUsage words text = AsksNone words × (text ≡ usage_text)

-- a jitter was asked and one byte more than 16 MiB was read, no more: this is said
abbrev pub IsTooLong : List (String Global) → Outside → Outside → List ℕ → Type 0
IsTooLong words before after text =
    AsksSome words × ReadsCount before.left after.left (input_limit + 1) × (text ≡ long_text)

-- the text that belongs to status 0, 1, 2, 3 or 7
abbrev pub IsAnswer : List (String Global) → Outside → Outside → List ℕ → Type 0
IsAnswer words before after text =
    Done (AnswersTyped 0) words before after text ⊎ Done (AnswersTyped 1) words before after text
    ⊎ IsUsage words text ⊎ Done Rejects words before after text
    ⊎ IsTooLong words before after text

-- the jitter is not below all periods, or a condition that speaks of no cells fails
abbrev pub IsNotSearched : Tables → ℕ → Type 0
IsNotSearched t jitter = IsLate t jitter ⊎ ((r : Refusal) × (as_asked t).Refuses r)

-- some module of the program has no region
abbrev pub LacksRegion : Program → Tables → ℕ → Type 0
LacksRegion p t jitter =
    (m : ℕ) × (a : ModuleInfo) × At t.modules m a × HasNoRegion p t jitter m

-- `certify` makes a certificate for the regions that the program was given
abbrev pub HasGivenMission : Tables → Type 0
HasGivenMission t = (cert : Cert) × Certifies t (Ok cert)

-- the status that words and bytes alone decide: where regions are not searched, where there are
-- none, and, with firings on time, where halving the given ones makes a certificate
abbrev pub Decides : List (String Global) → List ℕ → ℕ → Type 0
Decides words bytes status =
    ((status ≡ 2) × AsksNone words)
    ⊎ ((status ≡ 7) × AsksSome words × (input_limit < length bytes))
    ⊎ ((status ≡ 3) × AsksSome words × (length bytes ≤ input_limit)
    × ((f : Fault) × HasProgramFault bytes f))
    ⊎ ((status ≡ 1) × ((jitter : ℕ) × Asks words jitter × (length bytes ≤ input_limit)
    × ((p : Program) × (t : Tables) × SpellsTyped bytes p t
    × (IsNotSearched t jitter ⊎ LacksRegion p t jitter))))
    ⊎ ((status ≡ 0) × Asks words 0 × (length bytes ≤ input_limit)
    × ((p : Program) × (t : Tables) × SpellsTyped bytes p t × HasGivenMission t))

-- words and bytes for which they are
abbrev pub AskSearch : List (String Global) → List ℕ → Type 0
AskSearch words bytes =
    (jitter : ℕ) × Asks words jitter × (length bytes ≤ input_limit)
    × ((p : Program) × (t : Tables) × SpellsTyped bytes p t × IsSearched t jitter)

-- the end of a call, status by status
pub record Ends (words : List (String Global)) (before after : Outside) (status : ℕ) : Type 0 where
  pub known : status ≤ 7
  pub found : status ≡ 0 → Writes before after (Done (AnswersTyped 0) words before after)
  pub refused : status ≡ 1 → Writes before after (Done (AnswersTyped 1) words before after)
  pub usage : status ≡ 2 → Writes before after (IsUsage words)
  pub rejected : status ≡ 3 → Writes before after (Done Rejects words before after)
  pub read_fault : status ≡ 4 → AsksSome words × Rose before.read_faults after.read_faults
  pub write_fault : status ≡ 5 → Rose before.write_faults after.write_faults
      × WritesPart before after (IsAnswer words before after)
  pub too_long : status ≡ 7 → Writes before after (IsTooLong words before after)
  -- but at status 4 no read failed, and but at status 5 no write
  pub read_well : status ≢ 4 → after.read_faults ≡ before.read_faults
  pub wrote_well : status ≢ 5 → after.write_faults ≡ before.write_faults
  -- status 6 is want of memory, which may come at any time before the writing
  pub unwritten : (status ≡ 4) ⊎ (status ≡ 6) → Keeps before.held after.held
  -- with no fault and memory enough, it is the status that words and bytes decide, and 0 or 1
  -- where regions are searched
  pub decided : (¬ (Rose before.read_faults after.read_faults))
      → (¬ (Rose before.write_faults after.write_faults)) → status ≢ 6
      → IfSome before.left (λ bytes. (s : ℕ) → Decides words bytes s → status ≡ s)
  pub searched : (¬ (Rose before.read_faults after.read_faults))
      → (¬ (Rose before.write_faults after.write_faults)) → status ≢ 6
      → IfSome before.left (λ bytes. AskSearch words bytes → status ≤ 1)
