-- What the bytes of a mission spell: a program with its tables, a certificate, and what else a
-- command needs, or a first fault.
use Rattle.std.specs.Prelude.{◌≡◌, ℕ, List, Option, Some, None, Ok, Err}
use Rattle.sot_sections.specs.declared.mission.Need.{Need}
use Rattle.sot_sections.specs.Sections.{Parts, split_of}
use Rattle.sot_syntax_tree.specs.Trees.{Program}
use Rattle.sot_lang.specs.Tables.{Tables}
use Rattle.sot_lang.specs.declared.cert.Cert.{Cert}
use Rattle.sot_lang.specs.TableRules.{MeetsTableRules}
use Rattle.sot_lang.specs.CertRules.{FitsTables}
use Rattle.sot_parser.specs.Programs.{Spells}
use Rattle.sot_text.specs.Ahead.{ahead_from}
use Rattle.sot_law_fault_place.specs.Places.{IsFaultOf}
use Rattle.sot_rules.specs.First.{IsFirstFault, IsFaultless}
use Rattle.sot_typing.specs.Resolved.{AreTables}
use Rattle.sot_json.specs.declared.fault.JsonFault.{JsonFault}
use Rattle.sot_cert.specs.CertFormat.{Contents, cert_of, contents}
use Rattle.sot_flight.specs.Plans.{Plan}
use Rattle.sot_flight.specs.Fits.{FitsFlight}
use Rattle.sot_flight.specs.FlightFormat.{flight_of}
use Rattle.sot_report.specs.declared.fault.Fault.{Fault}
use Rattle.sot_report.specs.declared.fault.Fault.TheVariants as faults

-- a text spells no program
abbrev pub SpellsNone : List ℕ → Type 0
SpellsNone text = (program : Program) → ¬ (Spells text 0 program)

-- the sections of the bytes that a command needs are these
abbrev pub HasParts : Need → List ℕ → Parts → Type 0
HasParts need bytes parts = split_of bytes need ≡ Ok parts

-- a program breaks no rule of typing, and these are its tables
pub record Resolves (p : Program) (t : Tables) : Type 0 where
  pub faultless : IsFaultless p
  pub tables : AreTables p t
  pub rules : MeetsTableRules t

-- a mission: a program's tree, its tables, a certificate, and, where they are needed, a flight and
-- the lines of a trace
pub record Mission : Type 0 where
  pub program : Program
  pub tables : Tables
  pub cert : Cert
  pub flight : Option Plan
  pub trace : Option (List ℕ)

-- a section says this flight of the program, with so many guests, and the flight fits the tables;
-- no section says none
abbrev pub SaysFlight : Tables → ℕ → Option (List ℕ) → Option Plan → Type 0
SaysFlight t guests None None = Unit {0}
SaysFlight t guests None (Some f) = ⊥
SaysFlight t guests (Some section) None = ⊥
SaysFlight t guests (Some section) (Some f) =
    (flight_of t guests section ≡ Ok f) × FitsFlight t guests f

-- the bytes spell this mission: the sections that the command needs are there; the first is the
-- text of the program, which breaks no rule of typing; the second says the certificate, which fits
-- the tables; and the others are the flight and the trace
pub record SpellsMission (need : Need) (guests : ℕ) (bytes : List ℕ) (m : Mission) : Type 0 where
  pub parts : Parts
  pub divided : HasParts need bytes parts
  pub spelled : Spells parts.program 0 m.program
  pub resolved : Resolves m.program m.tables
  pub certified : cert_of m.tables parts.cert ≡ Ok (contents m.cert)
  pub fits : FitsTables m.tables m.cert
  pub flown : SaysFlight m.tables guests parts.flight m.flight
  pub traced : m.trace ≡ parts.trace

-- the program's text spells this program, whose tables are these
abbrev pub SpellsTables : Parts → Program → Tables → Type 0
SpellsTables parts p t = Spells parts.program 0 p × Resolves p t

-- a section is there, and says no flight of the tables, by this first fault
abbrev pub FaultsFlight : Tables → ℕ → Option (List ℕ) → JsonFault → Type 0
FaultsFlight t guests None fault = ⊥
FaultsFlight t guests (Some section) fault = flight_of t guests section ≡ Err fault

-- the first fault of the bytes: of the sections, else of syntax, else of typing, else of the
-- certificate, else of the flight
abbrev pub HasFault : Need → ℕ → List ℕ → Fault → Type 0
HasFault need guests bytes (faults.Section fault) = split_of bytes need ≡ Err fault
HasFault need guests bytes (faults.Syntax fault) =
    (parts : Parts) × HasParts need bytes parts × SpellsNone parts.program
    × IsFaultOf parts.program (ahead_from parts.program 0) fault
HasFault need guests bytes (faults.Typing fault) =
    (parts : Parts) × HasParts need bytes parts
    × ((p : Program) × Spells parts.program 0 p × IsFirstFault p fault)
HasFault need guests bytes (faults.Cert fault) =
    (parts : Parts) × HasParts need bytes parts
    × ((p : Program) × (t : Tables) × SpellsTables parts p t × (cert_of t parts.cert ≡ Err fault))
HasFault need guests bytes (faults.Flight fault) =
    (parts : Parts) × HasParts need bytes parts
    × ((p : Program) × (t : Tables) × SpellsTables parts p t
    × ((c : Contents) × (cert_of t parts.cert ≡ Ok c)) × FaultsFlight t guests parts.flight fault)
