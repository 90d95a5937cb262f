-- What the steps of loading promise each other.
use Rattle.std.specs.Prelude.{◌≡◌, ℕ, List, Option, Ok, Err}
use Rattle.std.specs.Option.{option_map}
use Rattle.sot_sections.specs.declared.mission.Need.{Need}
use Rattle.sot_sections.specs.Sections.{Parts}
use Rattle.sot_syntax_tree.specs.Trees.{Program}
use Rattle.sot_lang.specs.Tables.{Tables}
use Rattle.sot_lang.specs.declared.cert.Cert.{Cert}
use Rattle.sot_lang.specs.CertRules.{FitsTables}
use Rattle.sot_parser.specs.Programs.{Spells}
use Rattle.sot_text.specs.Ahead.{ahead_from}
use Rattle.sot_law_fault_place.specs.Places.{IsFaultOf}
use Rattle.sot_rules.specs.First.{IsFirstFault}
use Rattle.sot_cert.specs.CertFormat.{Contents, cert_of, contents}
use Rattle.sot_report.specs.declared.fault.Fault.{Fault}
use Rattle.sot_report.specs.declared.fault.Fault.TheVariants as faults
use Rattle.sot_report.specs.declared.fault.LoadFail.{LoadFail}
use Rattle.sot_report.specs.declared.fault.LoadFail.TheVariants as fails
use Rattle.sot_report.specs.declared.loading.Loaded.{Loaded}
use Rattle.sot_report.specs.Missions.{Mission, SpellsNone, Resolves, SaysFlight, SpellsTables}
use Rattle.sot_report.specs.Missions.{FaultsFlight, SpellsMission}

-- a fault is what P says; want of memory may come at any time
abbrev pub IfFault : LoadFail → (Fault → Type 0) → Type 0
IfFault fails.Memory P = Unit {0}
IfFault (fails.Fault f) P = P f

-- a section says this certificate, which fits the tables
pub record SaysCert (t : Tables) (section : List ℕ) (c : Cert) : Type 0 where
  pub certified : cert_of t section ≡ Ok (contents c)
  pub fits : FitsTables t c

-- a section says no certificate of the tables, by this fault
abbrev pub FailsCert : Tables → List ℕ → Fault → Type 0
FailsCert t section (faults.Section fault) = ⊥
FailsCert t section (faults.Syntax fault) = ⊥
FailsCert t section (faults.Typing fault) = ⊥
FailsCert t section (faults.Cert fault) = cert_of t section ≡ Err fault
FailsCert t section (faults.Flight fault) = ⊥

-- a section is there, and says no flight of the tables, by this fault
abbrev pub FailsFlight : Tables → ℕ → Option (List ℕ) → Fault → Type 0
FailsFlight t guests section (faults.Section fault) = ⊥
FailsFlight t guests section (faults.Syntax fault) = ⊥
FailsFlight t guests section (faults.Typing fault) = ⊥
FailsFlight t guests section (faults.Cert fault) = ⊥
FailsFlight t guests section (faults.Flight fault) = FaultsFlight t guests section fault

-- the tables are the program's, and certificate, flight and trace are what the sections say of them
pub record LoadsTree (p : Program) (parts : Parts) (guests : ℕ) (l : Loaded) : Type 0 where
  pub resolved : Resolves p l.program
  pub certified : cert_of l.program parts.cert ≡ Ok (contents l.cert)
  pub fits : FitsTables l.program l.cert
  pub flown : SaysFlight l.program guests parts.flight l.flight
  pub traced : option_map (λ b. b.now) l.trace ≡ parts.trace

-- a section says no certificate of the tables, or no flight
abbrev pub FailsTables : Tables → Parts → ℕ → Fault → Type 0
FailsTables t parts guests (faults.Section fault) = ⊥
FailsTables t parts guests (faults.Syntax fault) = ⊥
FailsTables t parts guests (faults.Typing fault) = ⊥
FailsTables t parts guests (faults.Cert fault) = cert_of t parts.cert ≡ Err fault
FailsTables t parts guests (faults.Flight fault) =
    ((c : Contents) × (cert_of t parts.cert ≡ Ok c)) × FaultsFlight t guests parts.flight fault

-- the program breaks a rule of typing, or a section says nothing of its tables
abbrev pub FailsTree : Program → Parts → ℕ → Fault → Type 0
FailsTree p parts guests (faults.Section fault) = ⊥
FailsTree p parts guests (faults.Syntax fault) = ⊥
FailsTree p parts guests (faults.Typing fault) = IsFirstFault p fault
FailsTree p parts guests (faults.Cert fault) =
    (t : Tables) × Resolves p t × FailsTables t parts guests (faults.Cert fault)
FailsTree p parts guests (faults.Flight fault) =
    (t : Tables) × Resolves p t × FailsTables t parts guests (faults.Flight fault)

-- what was loaded is what the text of a program and the other sections say; or what is wrong with
-- them first
abbrev pub LoadsText : Parts → ℕ → Loaded → Type 0
LoadsText parts guests l = (p : Program) × Spells parts.program 0 p × LoadsTree p parts guests l

abbrev pub FailsText : Parts → ℕ → Fault → Type 0
FailsText parts guests (faults.Section fault) = ⊥
FailsText parts guests (faults.Syntax fault) =
    SpellsNone parts.program × IsFaultOf parts.program (ahead_from parts.program 0) fault
FailsText parts guests (faults.Typing fault) =
    (p : Program) × Spells parts.program 0 p × IsFirstFault p fault
FailsText parts guests (faults.Cert fault) =
    (p : Program) × (t : Tables) × SpellsTables parts p t
    × FailsTables t parts guests (faults.Cert fault)
FailsText parts guests (faults.Flight fault) =
    (p : Program) × (t : Tables) × SpellsTables parts p t
    × FailsTables t parts guests (faults.Flight fault)

-- what was loaded, as a mission of this program
abbrev pub mission_of : Program → Loaded → Mission
mission_of p l =
    record {
      program = p;
      tables = l.program;
      cert = l.cert;
      flight = l.flight;
      trace = option_map (λ b. b.now) l.trace;
    }

-- a mission was loaded
pub record LoadsMission (need : Need) (guests : ℕ) (bytes : List ℕ) (l : Loaded) : Type 0 where
  pub program : Program
  pub mission : SpellsMission need guests bytes (mission_of program l)
