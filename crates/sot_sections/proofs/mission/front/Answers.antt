use Rattle.std.proofs.Common.{ℕ, ◌+◌, List, length, take, subst, sym}
use Rattle.std.proofs.lemmas.List.{take_rest}
use Rattle.sot_sections.specs.Dividing.{divided, end_line, IsRest}
use Rattle.sot_sections.proofs.SectionStarts.{front_cut}
use Rattle.sot_sections.proofs.mission.front.Goals as goal

pub returns-clause-body : goal.returns-clause-body
returns-clause-body c line =
    let at = c.section_start-at in
    (front_cut line at.result c.args.bytes.now at.ensures.within at.ensures.none at.ensures.cut).0

pub returns-clause-rest : goal.returns-clause-rest
returns-clause-rest c line =
    let at = c.section_start-at in
    let bytes = c.args.bytes.now in
    subst (λ (rest : List ℕ). IsRest (divided line bytes).sections (end_line line bytes) (line + length bytes) (end_line line (take at.result bytes)) rest)
    (sym (take_rest bytes at.result))
    (front_cut line at.result bytes at.ensures.within at.ensures.none at.ensures.cut).1
