-- The running example's tables, but for what does not count.
use Rattle.std.specs.Prelude.{◌≡◌, false, map}
use Rattle.std.specs.Global.{Global}
use Rattle.sot_box.specs.BoxList.{BoxList}
use Rattle.sot_lang.specs.declared.tables.ModuleInfo.{ModuleInfo}
use Rattle.sot_lang.specs.Tables.{Tables}
use Rattle.sot_lang.specs.Line.{line}
use Rattle.sot_rules.specs.FaultlessPrograms.{the_line}
use Rattle.sot_typing.specs.Resolved.{ProgramTables, tables_seen, tables_of}
use Rattle.sot_law_equal_tables.specs.UnplacedTables.{unplaced_tables}
use Rattle.sot_worked_missions.specs.Line.{IsMove, IsLine}

-- a region whose index is forgotten
abbrev pub plain_region : BoxList → BoxList
plain_region r = record r { settled = false }

abbrev pub plain_module : ModuleInfo → ModuleInfo
plain_module m = record m { safe = plain_region m.safe; safer = plain_region m.safer }

-- tables without places of expressions and statements, and without indexes
abbrev pub plain_tables : ProgramTables → ProgramTables
plain_tables t = record (unplaced_tables t) { modules = map plain_module t.modules }

-- the tables that are made of the program of the running example are its tables, for any allocator
abbrev pub MadeTablesAreTheLine : Type 0
MadeTablesAreTheLine =
    (g : Global) → plain_tables (tables_of the_line) ≡ plain_tables (tables_seen (line g))

-- the worked tables of the running example are its tables
abbrev pub WorkedTablesAreTheLine : Type 0
WorkedTablesAreTheLine =
    (g : Global) (p : Tables) → IsLine IsMove p
    → plain_tables (tables_seen p) ≡ plain_tables (tables_seen (line g))
