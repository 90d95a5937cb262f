-- Where the parts of a program stand in a text does not count.
use Rattle.std.specs.Prelude.{◌≡◌, ◌↔◌, ℕ, List}
use Rattle.sot_lang.specs.Tables.{Tables}
use Rattle.sot_lang.specs.declared.cert.Cert.{Cert}
use Rattle.sot_syntax_tree.specs.Trees.{Program}
use Rattle.sot_parser.specs.Programs.{Spells}
use Rattle.sot_print.specs.Canonical.{canonical}
use Rattle.sot_rules.specs.First.{IsFaultless}
use Rattle.sot_typing.specs.Resolved.{AreTables}
use Rattle.sot_cert.specs.CertFormat.{cert_of}
use Rattle.sot_tube.specs.Certified.{IsWellCertified}
use Rattle.sot_law_print_parse.specs.Unplaced.{AreSame}
use Rattle.sot_law_equal_tables.specs.UnplacedTables.{AreAlike}

-- a program that is the same as one that breaks no rule of typing breaks none
abbrev pub TypingKnowsNoPlace : Type 0
TypingKnowsNoPlace = (p q : Program) → AreSame p q → IsFaultless p → IsFaultless q

-- programs that are the same have tables that are alike
abbrev pub TablesKnowNoPlace : Type 0
TablesKnowNoPlace =
    (p q : Program) (t u : Tables) → AreSame p q → AreTables p t → AreTables q u → AreAlike t u

-- tables that are alike are well certified alike, by certificates with the same cells
abbrev pub CertifiedAlikeButForPlaces : Type 0
CertifiedAlikeButForPlaces =
    (t u : Tables) (jitter : ℕ) (c d : Cert) → AreAlike t u → c.modules.items ≡ d.modules.items
    → IsWellCertified t jitter c → IsWellCertified u jitter d

-- a certificate's text says the same of tables that are alike
abbrev pub CertificatesAlikeButForPlaces : Type 0
CertificatesAlikeButForPlaces =
    (t u : Tables) (bytes : List ℕ) → AreAlike t u → cert_of t bytes ≡ cert_of u bytes

-- the program that a text spells, and the one that its canonical text spells: the one breaks no
-- rule of typing where the other breaks none, and their tables are alike
abbrev pub FormattedProgramsAreAlike : Type 0
FormattedProgramsAreAlike =
    (bytes : List ℕ) (at : ℕ) (p q : Program) → Spells bytes at p → Spells (canonical p) 0 q
    → (IsFaultless p ↔ IsFaultless q) ×
    ((t u : Tables) → AreTables p t → AreTables q u → AreAlike t u)
