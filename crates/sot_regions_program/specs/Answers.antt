-- What `soter_regions` answers to a jitter and the bytes of its input.
use Rattle.std.specs.Prelude.{◌≡◌, ℕ, ◌<◌, ◌≤◌, ◌⊎◌, ℤ, List, Ok}
use Rattle.sot_lists.specs.Places.{At}
use Rattle.sot_sections.specs.declared.mission.Need.TheVariants as needs
use Rattle.sot_syntax_tree.specs.Trees.{Program}
use Rattle.sot_text.specs.Ahead.{ahead_from}
use Rattle.sot_parser.specs.Programs.{Spells}
use Rattle.sot_law_fault_place.specs.Places.{IsFaultOf}
use Rattle.sot_law_print_parse.specs.Unplaced.{AreSame}
use Rattle.sot_rules.specs.First.{IsFirstFault}
use Rattle.sot_lang.specs.declared.cert.Cert.{Cert}
use Rattle.sot_lang.specs.declared.tables.ModuleInfo.{ModuleInfo}
use Rattle.sot_lang.specs.Tables.{Tables}
use Rattle.sot_tube.specs.Certified.{IsWellCertified}
use Rattle.sot_tube.specs.Verdict.{verdict}
use Rattle.sot_tube.specs.Refusals.{Refusal}
use Rattle.sot_world.specs.Headline.{EveryRunIsSafe}
use Rattle.sot_report.specs.declared.fault.Fault.{Fault}
use Rattle.sot_report.specs.declared.fault.Fault.TheVariants as faults
use Rattle.sot_report.specs.Missions.{Mission, Resolves, SpellsNone, SpellsMission}
use Rattle.sot_report.specs.FaultTexts.{fault_text}
use Rattle.sot_report.specs.RefusalTexts.{refusal_text}
use Rattle.sot_certified_text.specs.ReadAgain.{written_with_jitter}
use Rattle.sot_certify.specs.Certifying.{Certifies}
use Rattle.sot_law_regions_rewrite.specs.WithoutRegions.{AreSameButForRegions}
use Rattle.sot_law_invariant_regions.specs.Alone.{IsAlone}
use Rattle.sot_regions.specs.Grains.{IsUnitGrain, HasNoClosedSetAt}
use Rattle.sot_regions_rewrite.specs.declared.modules.ModuleRegions.{ModuleRegions}
use Rattle.sot_regions_rewrite.specs.OtherRegions.{with_regions}
use Rattle.sot_regions_program.specs.Lines.{refusal_line}
use Rattle.sot_regions_program.specs.declared.refusal.RegionsRefusal.{RegionsRefusal}
use Rattle.sot_regions_program.specs.declared.refusal.RegionsRefusal.TheVariants.{Jitter, SafeNone}
use Rattle.sot_regions_program.specs.declared.refusal.RegionsRefusal.TheVariants.{TooMany}
use Rattle.sot_regions_program.specs.declared.refusal.RegionsRefusal.TheVariants.{SaferNone}
use Rattle.sot_regions_program.specs.declared.refusal.RegionsRefusal.TheVariants.{SafeNoneBeside}
use Rattle.sot_regions_program.specs.AsAsked.{IsLate, as_asked, IsSearched}
use Rattle.sot_regions_program.specs.Findings.{IsInside, HasBoxes, AreFirstFound, AreFound}
use Rattle.sot_law_invariant_regions.specs.Shown.{IsShown}
use Rattle.sot_regions_program.specs.Shown.{HaveRegions, verdict_of_some}

-- the safe region of each module of the second tables lies inside that of the first
abbrev pub StayInside : Tables → Tables → Type 0
StayInside t u =
    (k : ℕ) (a b : ModuleInfo) → At t.modules k a → At u.modules k b → IsInside b.safe a.safe

-- the text spells a mission of this program, but for where its parts stand, that has this jitter
-- and is accepted; every run of it, with firings up to this jitter late, keeps every plant inside
-- the safe region of its module; and that lies inside the one that was given
pub record SpellsSafe (p : Program) (t : Tables) (jitter : ℕ) (text : List ℕ) : Type 0 where
  pub mission : Mission
  pub spelled : SpellsMission needs.Check 0 text mission
  pub program : AreSame p mission.program
  pub jitter_is : mission.cert.jitter ≡ jitter
  pub accepted : IsWellCertified mission.tables jitter mission.cert
  pub safe : EveryRunIsSafe mission.tables jitter
  pub inside : StayInside t mission.tables

-- the text is the mission of the program with regions that were found, which is the program that
-- was given but for `safe` and `safer` of its modules
pub record IsMissionOf (p : Program) (t : Tables) (jitter : ℕ) (text : List ℕ) : Type 0 where
  pub regions : List ModuleRegions
  pub found : AreFound t regions
  pub tables : Tables
  pub cert : Cert
  pub text_is : text ≡ written_with_jitter (with_regions regions p) tables cert
  pub spelled : SpellsSafe (with_regions regions p) t jitter text

-- the text is the mission of the program as it was given, with firings on time, and with the cells
-- into which `certify` halves the boxes of its regions
pub record IsMissionAsGiven (p : Program) (t : Tables) (jitter : ℕ) (text : List ℕ) : Type 0 where
  pub on_time : jitter ≡ 0
  pub cert : Cert
  pub made : Certifies t (Ok cert)
  pub text_is : text ≡ written_with_jitter p t cert
  pub boxes : (m : ℕ) (a : ModuleInfo) → At t.modules m a
      → HasBoxes 256 a.safe × HasBoxes 256 a.safer
  pub spelled : SpellsSafe p t jitter text

-- with firings on time, halving the boxes of the given regions makes no certificate either
abbrev pub HalvingFailsToo : Tables → ℕ → Type 0
HalvingFailsToo t jitter = jitter ≡ 0 → (cert : Cert) → ¬ (Certifies t (Ok cert))

-- a condition that speaks of no cells fails of the program as it was asked, the first in its
-- order, and this is said
abbrev pub IsRefusedAsAsked : Tables → List ℕ → Type 0
IsRefusedAsAsked t text =
    (r : Refusal) × (as_asked t).Refuses r × (text ≡ refusal_text t r)

-- a program that is another one but for `safe` and `safer` of its modules and for where its parts
-- stand in a text
pub record HasOtherRegions (p other : Program) : Type 0 where
  pub changed : Program
  pub regions : AreSameButForRegions p changed
  pub places : AreSame changed other

-- whatever regions the modules of the program have, where that of module m lies inside the one that
-- was given: no certificate is good at this jitter
abbrev pub HasNoRegion : Program → Tables → ℕ → ℕ → Type 0
HasNoRegion p t jitter m =
    (other : Program) (u : Tables) (cert : Cert) (a b : ModuleInfo) → HasOtherRegions p other
    → Resolves other u → At t.modules m a → At u.modules m b → IsInside b.safe a.safe
    → ¬ (IsWellCertified u jitter cert)

-- even of module m alone: no cells show its regions
abbrev pub HasNoCells : Program → Tables → ℕ → ℕ → Type 0
HasNoCells p t jitter m =
    (other : Program) (u : Tables) (cert : Cert) (a b : ModuleInfo) → HasOtherRegions p other
    → Resolves other u → At t.modules m a → At u.modules m b → IsInside b.safe a.safe
    → ¬ (IsShown u jitter cert m b)

-- module m is there, and the modules before it, where there are some, have regions
abbrev pub IsReached : Program → Tables → ℕ → ℕ → Type 0
IsReached p t jitter m =
    ((a : ModuleInfo) × At t.modules m a) × (0 < m → HaveRegions p t jitter m)

-- no other plant concerns module m: its plant sees none, and its safe node reads none
abbrev pub IsAloneAt : Tables → ℕ → Type 0
IsAloneAt t m = (a : ModuleInfo) → At t.modules m a → IsAlone t a

-- no set of atoms of this grain in the safe region of module m is closed
abbrev pub HasNoClosedAtoms : Tables → ℕ → ℕ → List ℤ → Type 0
HasNoClosedAtoms t jitter m grain =
    (a : ModuleInfo) → At t.modules m a → HasNoClosedSetAt t jitter a grain

-- nothing is left of the safe region of module m, which no other plant concerns, at this grain, at
-- this jitter or a greater one. Where it is one unit, the module has no region
abbrev pub LeavesNothing : Program → Tables → ℕ → ℕ → List ℤ → Type 0
LeavesNothing p t jitter m grain =
    (later : ℕ) → jitter ≤ later → HasNoClosedAtoms t later m grain
    × (IsUnitGrain grain → HasNoCells p t later m × HasNoRegion p t later m)

-- a line that names a module of the program: the first one of which no region was found, since
-- those before it have regions
abbrev pub NamesModule : Program → Tables → ℕ → RegionsRefusal → Type 0
NamesModule p t jitter (Jitter j) = ⊥
NamesModule p t jitter (SafeNone m grain) =
    IsReached p t jitter m × IsAloneAt t m × LeavesNothing p t jitter m grain
NamesModule p t jitter (SafeNoneBeside m grain) = IsReached p t jitter m × (¬ (IsAloneAt t m))
NamesModule p t jitter (TooMany m) = IsReached p t jitter m
NamesModule p t jitter (SaferNone m) = IsReached p t jitter m

-- of a module no region was found, and this is said
abbrev pub IsNotFound : Program → Tables → ℕ → List ℕ → Type 0
IsNotFound p t jitter text =
    (r : RegionsRefusal) × NamesModule p t jitter r × (text ≡ refusal_line t r)

-- of a module no region was found, and a checker refuses the program with those of the modules
-- before it, for this
abbrev pub IsRefusedBefore : Program → Tables → ℕ → List ℕ → Type 0
IsRefusedBefore p t jitter text =
    (m : ℕ) × (regions : List ModuleRegions) × (u : Tables) × (cert : Cert)
    × AreFirstFound t regions m × Resolves (with_regions regions p) u × (cert.jitter ≡ jitter)
    × ((r : Refusal) × (verdict_of_some u cert.jitter cert).Refuses r × (text ≡ refusal_text u r))

-- regions were found, and a checker refuses the program with them, for this
abbrev pub IsRefusedAsFound : Program → Tables → ℕ → List ℕ → Type 0
IsRefusedAsFound p t jitter text =
    (regions : List ModuleRegions) × (u : Tables) × (cert : Cert) × AreFound t regions
    × Resolves (with_regions regions p) u × (cert.jitter ≡ jitter)
    × ((r : Refusal) × (verdict u cert.jitter cert).Refuses r × (text ≡ refusal_text u r))

-- what is answered to a program that breaks no rule of typing: at status 1 that the jitter is not
-- below all periods; else the first condition that fails of the program as it was asked; else that
-- no region was found of a module, or why the program with the found regions is refused: those of
-- the modules before such a one, or those of all. Of these three each says besides that halving the
-- given regions fails. At status 0 its mission, with regions that were found or as it was given
abbrev pub Answers : Program → Tables → ℕ → ℕ → List ℕ → Type 0
Answers p t jitter status text =
    ((status ≡ 1) × IsLate t jitter × (text ≡ refusal_line t (Jitter jitter)))
    ⊎ ((status ≡ 1) × (¬ (IsLate t jitter)) × IsRefusedAsAsked t text)
    ⊎ ((status ≡ 1) × IsSearched t jitter × HalvingFailsToo t jitter × IsNotFound p t jitter text)
    ⊎ ((status ≡ 1) × IsSearched t jitter × HalvingFailsToo t jitter
    × IsRefusedBefore p t jitter text)
    ⊎ ((status ≡ 1) × IsSearched t jitter × HalvingFailsToo t jitter
    × IsRefusedAsFound p t jitter text)
    ⊎ ((status ≡ 0) × IsSearched t jitter
    × (IsMissionOf p t jitter text ⊎ IsMissionAsGiven p t jitter text))

-- the bytes spell a program that breaks no rule of typing
abbrev pub SpellsTyped : List ℕ → Program → Tables → Type 0
SpellsTyped bytes p t = Spells bytes 0 p × Resolves p t

-- the first fault of a program's text: of syntax, else of typing
abbrev pub HasProgramFault : List ℕ → Fault → Type 0
HasProgramFault bytes (faults.Section fault) = ⊥
HasProgramFault bytes (faults.Syntax fault) =
    SpellsNone bytes × IsFaultOf bytes (ahead_from bytes 0) fault
HasProgramFault bytes (faults.Typing fault) =
    (p : Program) × Spells bytes 0 p × IsFirstFault p fault
HasProgramFault bytes (faults.Cert fault) = ⊥
HasProgramFault bytes (faults.Flight fault) = ⊥

-- status 0 or 1, of bytes that spell such a program
abbrev pub AnswersTyped : ℕ → ℕ → List ℕ → List ℕ → Type 0
AnswersTyped status jitter bytes text =
    (p : Program) × (t : Tables) × SpellsTyped bytes p t × Answers p t jitter status text

-- status 3: the first fault of the text
abbrev pub Rejects : ℕ → List ℕ → List ℕ → Type 0
Rejects jitter bytes text = (f : Fault) × HasProgramFault bytes f × (text ≡ fault_text f)

-- these bytes are answered with this status and this text
abbrev pub Replies : ℕ → List ℕ → ℕ → List ℕ → Type 0
Replies jitter bytes status text =
    AnswersTyped status jitter bytes text ⊎ ((status ≡ 3) × Rejects jitter bytes text)
