-- What a program with other regions is.
use Rattle.std.specs.Prelude.{◌≡◌, ℕ, List}
use Rattle.sot_syntax_tree.specs.Trees.{Program}
use Rattle.sot_syntax_tree.specs.Formed.{IsFormed}
use Rattle.sot_lang.specs.Tables.{Tables}
use Rattle.sot_rules.specs.First.{IsFaultless}
use Rattle.sot_typing.specs.Resolved.{tables_seen, AreTables}
use Rattle.sot_parser.specs.Programs.{Spells}
use Rattle.sot_print.specs.Canonical.{canonical}
use Rattle.sot_law_print_parse.specs.Unplaced.{AreSame}
use Rattle.sot_regions_rewrite.specs.declared.modules.ModuleRegions.{ModuleRegions}
use Rattle.sot_regions_rewrite.specs.OtherRegions.{with_regions}
use Rattle.sot_law_regions_rewrite.specs.Fitting.{AreFitting}
use Rattle.sot_law_regions_rewrite.specs.WithoutRegions.{AreSameButForRegions}
use Rattle.sot_law_regions_rewrite.specs.OtherTables.{tables_with}

-- a program with other regions is formed where the program itself is
abbrev pub ProgramsStayFormed : Type 0
ProgramsStayFormed =
    (regions : List ModuleRegions) (p : Program) → IsFormed p → AreFitting regions p.decls
    → IsFormed (with_regions regions p)

-- the canonical text of a program with other regions spells that program, where some text spells
-- the program with its own regions
abbrev pub CanonicalTextsAreReadBack : Type 0
CanonicalTextsAreReadBack =
    (regions : List ModuleRegions) (bytes : List ℕ) (at : ℕ) (p : Program) → Spells bytes at p
    → AreFitting regions p.decls
    → (q : Program) × Spells (canonical (with_regions regions p)) 0 q
    × AreSame (with_regions regions p) q

-- in a program with other regions nothing but the regions is another
abbrev pub NothingElseChanges : Type 0
NothingElseChanges =
    (regions : List ModuleRegions) (p : Program) → AreSameButForRegions p (with_regions regions p)

-- programs that are the same but for their regions have the same tables but for these
abbrev pub TablesHaveTheRegions : Type 0
TablesHaveTheRegions =
    (regions : List ModuleRegions) (p : Program) (t u : Tables) → AreFitting regions p.decls
    → AreTables p t → AreTables (with_regions regions p) u
    → tables_seen u ≡ tables_with regions (tables_seen t)

-- a program with other regions breaks no rule of typing where the program itself breaks none
abbrev pub ProgramsStayFaultless : Type 0
ProgramsStayFaultless =
    (regions : List ModuleRegions) (p : Program) → IsFaultless p → AreFitting regions p.decls
    → IsFaultless (with_regions regions p)
