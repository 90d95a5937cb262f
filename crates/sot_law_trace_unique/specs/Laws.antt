-- A printed trace is the trace of one history.
use Rattle.std.specs.Prelude.{◌≡◌, ℕ, List}
use Rattle.sot_sections.specs.declared.mission.Need.{Need}
use Rattle.sot_syntax_tree.specs.Trees.{Program}
use Rattle.sot_lang.specs.Tables.{Tables}
use Rattle.sot_parser.specs.Programs.{Spells}
use Rattle.sot_report.specs.Missions.{Mission, Resolves, SpellsMission}
use Rattle.sot_world.specs.HistoryEntry.{Logged}
use Rattle.sot_flight.specs.Plans.{Plan}
use Rattle.sot_board.specs.Flown.{FlownBy}
use Rattle.sot_trace.specs.Words.{AreWords}
use Rattle.sot_trace.specs.Traces.{trace_text}

-- the names in the tables of a program that a text spells are words of the language
abbrev pub NamesAreWords : Type 0
NamesAreWords =
    (text : List ℕ) (at : ℕ) (program : Program) (t : Tables) → Spells text at program
    → Resolves program t → AreWords t

-- bytes and a trace tell the history: of two missions that the same bytes spell, whose tables may
-- lie elsewhere in memory, histories with the same trace are the same, whatever flight and jitter
-- each is of
abbrev pub TracesAreOfOneHistory : Type 0
TracesAreOfOneHistory =
    (need : Need) (guests : ℕ) (bytes : List ℕ) (m n : Mission) (f g : Plan) (i j : ℕ)
    (x y : List Logged)
    → SpellsMission need guests bytes m → SpellsMission need guests bytes n → FlownBy m.tables i f x
    → FlownBy n.tables j g y
    → trace_text m.tables f.start x ≡ trace_text n.tables g.start y → x ≡ y
