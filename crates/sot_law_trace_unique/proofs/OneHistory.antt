-- Two histories with one trace.
use Rattle.std.proofs.Common.{◌≡◌, ◌∙◌, sym, ap, subst}
use Rattle.sot_sections.specs.Sections.{Parts}
use Rattle.sot_parser.specs.Programs.{Spells}
use Rattle.sot_parser.proofs.ProgramTexts.{spells_unique}
use Rattle.sot_typing.specs.Resolved.{tables_of, tables_seen}
use Rattle.sot_trace.proofs.TraceTexts.{text_tells}
use Rattle.sot_trace.proofs.FlownTold.{flown_told}
use Rattle.sot_law_trace_unique.specs.Laws.{TracesAreOfOneHistory}
use Rattle.sot_law_trace_unique.proofs.Named.{names}
use Rattle.sot_law_trace_unique.proofs.Looks.{text_same, traced_same}

pub one_history : TracesAreOfOneHistory
one_history need guests bytes m n f g i j x y one other (P, flown_x, end_x) (Q, flown_y, end_y) same =
    let parts : one.parts ≡ other.parts = (let both = sym one.divided ∙ other.divided in cc) in
    let programs : m.program ≡ n.program = spells_unique other.parts.program 0 m.program n.program
    (subst (λ (x : Parts). Spells x.program 0 m.program) parts one.spelled) other.spelled in
    let looks : tables_seen m.tables ≡ tables_seen n.tables = one.resolved.tables ∙ ap tables_of programs ∙ sym other.resolved.tables in
    let words = names one.parts.program 0 m.program m.tables one.spelled one.resolved in
    (text_tells m.tables f.start g.start x y one.resolved.rules words (flown_told m.tables i f x P one.resolved.rules flown_x)
    (traced_same m.tables n.tables looks g.start y (flown_told n.tables j g y Q other.resolved.rules flown_y))
    (same ∙ sym (text_same m.tables n.tables looks g.start y))).1
