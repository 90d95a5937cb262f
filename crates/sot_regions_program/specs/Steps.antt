-- What the functions below `regions` promise it.
use Rattle.std.specs.Prelude.{◌≡◌, ℕ, ◌⊎◌, ℤ, List, Option, Some, length, String}
use Rattle.std.proofs.Common.{Global}
use Rattle.sot_lists.specs.Places.{At}
use Rattle.sot_syntax_tree.specs.Trees.{Program}
use Rattle.sot_rules.specs.declared.fault.TypeFault.{TypeFault}
use Rattle.sot_rules.specs.First.{IsFirstFault}
use Rattle.sot_lang.specs.declared.cert.Cells.{Cells}
use Rattle.sot_lang.specs.declared.cert.Cert.{Cert}
use Rattle.sot_lang.specs.declared.tables.ModuleInfo.{ModuleInfo}
use Rattle.sot_lang.specs.Tables.{Tables}
use Rattle.sot_report.specs.Missions.{Resolves}
use Rattle.sot_report.specs.FaultTexts.{type_text}
use Rattle.sot_certified_text.specs.ReadAgain.{IsCertificateFor, written_with_jitter}
use Rattle.sot_regions_rewrite.specs.declared.modules.ModuleRegions.{ModuleRegions}
use Rattle.sot_law_invariant_regions.specs.Following.{HasNoHeldRegion}
use Rattle.sot_law_invariant_regions.specs.Alone.{IsAlone}
use Rattle.sot_regions.specs.Grains.{IsUnitGrain, HasNoClosedSetAt}
use Rattle.sot_regions.specs.declared.found.RegionsFail.{RegionsFail}
use Rattle.sot_regions.specs.declared.found.RegionsFail.TheVariants as causes
use Rattle.sot_regions_program.specs.declared.refusal.RegionsRefusal.{RegionsRefusal}
use Rattle.sot_regions_program.specs.declared.refusal.RegionsRefusal.TheVariants.{Jitter, SafeNone}
use Rattle.sot_regions_program.specs.declared.refusal.RegionsRefusal.TheVariants.{TooMany}
use Rattle.sot_regions_program.specs.declared.refusal.RegionsRefusal.TheVariants.{SaferNone}
use Rattle.sot_regions_program.specs.declared.refusal.RegionsRefusal.TheVariants.{SafeNoneBeside}
use Rattle.sot_regions_program.specs.Words.{Asks, AsksNone}
use Rattle.sot_regions_program.specs.Lines.{usage_text}
use Rattle.sot_cli.specs.Steps.{InputAnswer, SilentWhere}
use Rattle.sot_regions_program.specs.declared.search.SearchFail.{SearchFail}
use Rattle.sot_regions_program.specs.declared.search.SearchFail.TheVariants as fails
use Rattle.sot_regions_program.specs.declared.search.Searched.{Searched}
use Rattle.sot_regions_program.specs.declared.search.Searched.TheVariants as ends
use Rattle.sot_regions_program.specs.Findings.{IsFinding}
use Rattle.sot_law_regions_rewrite.specs.Fitting.{AreFitting}
use Rattle.sot_regions_program.specs.Answers.{SpellsTyped, IsRefusedAsFound, IsMissionOf}
use Rattle.sot_regions_program.specs.Answers.{Answers, IsNotFound, IsRefusedBefore, Replies}
use Rattle.sot_regions_program.specs.Answers.{IsMissionAsGiven, HalvingFailsToo, IsAloneAt}
use Rattle.sot_regions_program.specs.Ends.{AsksSome}

-- some program that the bytes spell has these tables
abbrev pub AreTablesOf : List ℕ → Tables → Type 0
AreTablesOf bytes t = (p : Program) × SpellsTyped bytes p t

-- what was found for the first modules of a program, so many
pub record AreFindings (t : Tables) (regions : List ModuleRegions) (cells : List (Option Cells))
    (k : ℕ)
    : Type 0 where
  pub regions_count : length regions ≡ k
  pub cells_count : length cells ≡ k
  pub each : (m : ℕ) (a : ModuleInfo) (r : ModuleRegions) → At t.modules m a → At regions m r
      → (c : Cells) × At cells m (Some c) × IsFinding a r c

-- what is said of what is read, or of too much
abbrev pub AskAnswer : ℕ → Option (List ℕ) → Option (List ℕ) → ℕ → List ℕ → Type 0
AskAnswer jitter left left_after status text =
    InputAnswer (Replies jitter) left left_after status text

-- what is said at the words
abbrev pub WordAnswer : List (String Global) → Option (List ℕ) → Option (List ℕ) → ℕ → List ℕ
    → Type 0
WordAnswer words left left_after status text =
    ((jitter : ℕ) × Asks words jitter × AskAnswer jitter left left_after status text)
    ⊎ (AsksNone words × (status ≡ 2) × (text ≡ usage_text))

-- why nothing is said: memory, with no fault of the source, or a source that failed
abbrev pub Silence : List (String Global) → ℕ → ℕ → ℕ → Type 0
Silence words faults faults_after status =
    SilentWhere (AsksSome words) faults faults_after status

-- the bytes spell a program that breaks no rule of typing, and whose modules may take these regions
abbrev pub MayTake : List ℕ → List ModuleRegions → Type 0
MayTake bytes regions =
    (p : Program) × (t : Tables) × SpellsTyped bytes p t × AreFitting regions p.decls

-- what is said of a program with regions that were found for all of its modules
abbrev pub AnswersFound : Program → Tables → ℕ → ℕ → List ℕ → Type 0
AnswersFound p t jitter status text =
    ((status ≡ 1) × IsRefusedAsFound p t jitter text)
    ⊎ ((status ≡ 0) × IsMissionOf p t jitter text)

-- the text was written of a program with a certificate for it
abbrev pub IsWritten : List ℕ → Type 0
IsWritten text =
    (p : Program) × (t : Tables) × (cert : Cert) × IsCertificateFor p t cert
    × (text ≡ written_with_jitter p t cert)

-- what is said of a program of which some module has none
abbrev pub AnswersNone : Program → Tables → ℕ → ℕ → List ℕ → Type 0
AnswersNone p t jitter status text =
    (status ≡ 1) × (IsNotFound p t jitter text ⊎ IsRefusedBefore p t jitter text)

-- what is said of a program whose regions are searched
abbrev pub AnswersSearched : Program → Tables → ℕ → ℕ → List ℕ → Type 0
AnswersSearched p t jitter status text =
    AnswersNone p t jitter status text ⊎ AnswersFound p t jitter status text

-- and what is said of it at last: the same, where halving fails too if there is no mission; or its
-- mission as it was given
abbrev pub AnswersAtLast : Program → Tables → ℕ → ℕ → List ℕ → Type 0
AnswersAtLast p t jitter status text =
    (AnswersSearched p t jitter status text × (status ≡ 1 → HalvingFailsToo t jitter))
    ⊎ ((status ≡ 0) × IsMissionAsGiven p t jitter text)

-- what is said of a program that a text spells
abbrev pub AnswersTree : Program → ℕ → ℕ → List ℕ → Type 0
AnswersTree p jitter status text =
    ((t : Tables) × Resolves p t × Answers p t jitter status text)
    ⊎ ((status ≡ 3) × ((fault : TypeFault) × IsFirstFault p fault × (text ≡ type_text fault)))

-- nothing is left of a safe region at a grain: no closed set of atoms of that grain lies in it and,
-- where that is one unit, no held region
abbrev pub IsNothingLeft : Tables → ℕ → ModuleInfo → List ℤ → Type 0
IsNothingLeft t jitter a grain =
    HasNoClosedSetAt t jitter a grain × (IsUnitGrain grain → HasNoHeldRegion t jitter a)

-- module m is there, and nothing is left of its safe region
abbrev pub TellsGrain : Tables → ℕ → ℕ → List ℤ → Type 0
TellsGrain t jitter m grain =
    (a : ModuleInfo) × At t.modules m a × IsNothingLeft t jitter a grain

-- a line that names module m, with what is known of its held regions
abbrev pub TellsModule : Tables → ℕ → ℕ → RegionsRefusal → Type 0
TellsModule t jitter m (Jitter j) = ⊥
TellsModule t jitter m (SafeNone n grain) =
    (n ≡ m) × IsAloneAt t m × TellsGrain t jitter m grain
TellsModule t jitter m (SafeNoneBeside n grain) =
    (n ≡ m) × (¬ (IsAloneAt t m)) × ((a : ModuleInfo) × At t.modules m a)
TellsModule t jitter m (TooMany n) = (n ≡ m) × ((a : ModuleInfo) × At t.modules m a)
TellsModule t jitter m (SaferNone n) = (n ≡ m) × ((a : ModuleInfo) × At t.modules m a)

-- why there are no regions of module m: such a line; want of memory may come at any time
abbrev pub IsNone : Tables → ℕ → ℕ → SearchFail → Type 0
IsNone t jitter m (fails.NotFound r) = TellsModule t jitter m r
IsNone t jitter m fails.Memory = Unit {0}

-- what was found for all modules of a program, or for those before one, and why there are none of
-- that one
abbrev pub AreSearched : Tables → ℕ → Searched → Type 0
AreSearched t jitter (ends.All found) =
    AreFindings t found.regions.items found.cells.items (length t.modules)
AreSearched t jitter (ends.First before r) =
    (m : ℕ) × AreFindings t before.regions.items before.cells.items m × TellsModule t jitter m r

-- where the safe region of a module that no other plant concerns has none, nothing is left of it
abbrev pub TellsFail : Tables → ℕ → ℕ → RegionsFail → Type 0
TellsFail t jitter m fail =
    (grain : List ℤ) (a : ModuleInfo) → fail ≡ causes.SafeNone grain
    → At t.modules m a → IsAlone t a → IsNothingLeft t jitter a grain

-- cells for all modules of a program, of which so many are those that were found, and the others
-- have none
pub record ArePadded (cells padded : List (Option Cells)) (count : ℕ) : Type 0 where
  pub count_is : length padded ≡ count
  pub has : (m : ℕ) (c : Cells) → At cells m (Some c) → At padded m (Some c)
  pub own : (m : ℕ) (c : Cells) → At padded m (Some c) → At cells m (Some c)
