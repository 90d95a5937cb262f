use Rattle.std.proofs.Common.{ℕ, inl, inr, sym, ap}
use Rattle.sot_sections.specs.declared.mission.SectionKind.TheVariants.{Missing}
use Rattle.sot_sections.specs.Sections.{parts_of}
use Rattle.sot_guard_program.proofs.accepting.section_fault.Goals as goal

pub returns-in-Ok : goal.returns-in-Ok
returns-in-Ok c =
    inr (parts_of c.in-Ok._sections, sym c.in-Ok.ensures, ap (λ (n : ℕ). record { line = n; kind = Missing }) c.line_behind.ensures)

pub returns-in-Err : goal.returns-in-Err
returns-in-Err c = inl (sym c.in-Err.ensures)
