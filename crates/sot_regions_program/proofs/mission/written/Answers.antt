use Rattle.std.proofs.Common.{ℕ, List, sym, subst}
use Rattle.sot_sections.specs.declared.mission.Need.TheVariants as needs
use Rattle.sot_syntax_tree.specs.TreeViews.{program_view}
use Rattle.sot_report.specs.Missions.{Mission, SpellsMission}
use Rattle.sot_regions_program.specs.Steps.{IsWritten}
use Rattle.sot_regions_program.proofs.mission.written.Goals as goal

pub read_back-requires-clause-written : goal.read_back-requires-clause-written
read_back-requires-clause-written c =
    subst IsWritten (sym c.deref.ensures.value)
    (program_view c.args.program.now, c.args.tables.now, c.args.cert.now, c.requires, c.in_ok-text.ensures.text)

pub returns-clause-spelled : goal.returns-clause-spelled
returns-clause-spelled c = subst (λ (b : List ℕ). (m : Mission) × SpellsMission needs.Check 0 b m) c.deref.ensures.value c.in_ok-read_back.ensures
