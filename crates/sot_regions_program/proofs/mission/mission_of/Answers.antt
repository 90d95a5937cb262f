use Rattle.std.proofs.Common.{List, length, refl, sym, subst}
use Rattle.sot_syntax_tree.specs.TreeViews.{program_view}
use Rattle.sot_lang.specs.declared.cert.Cert.{Cert}
use Rattle.sot_regions_rewrite.specs.declared.modules.ModuleRegions.{ModuleRegions}
use Rattle.sot_rta.specs.Refused.{refusal_view}
use Rattle.sot_regions_program.specs.Steps.{MayTake}
use Rattle.sot_regions_program.proofs.Spelled.{may_take}
use Rattle.sot_regions_program.proofs.Missions.{cert_fits, cert_for, refused_so, written_so}
use Rattle.sot_regions_program.proofs.mission.mission_of.Goals as goal

pub typed_with-requires-clause-may : goal.typed_with-requires-clause-may
typed_with-requires-clause-may g c =
    subst (λ (rs : List ModuleRegions). MayTake c.args.asked.text.now rs) (sym c.deref.ensures.value)
    (may_take c.args.asked.text.now c.args.asked.tables.now c.args.findings.regions.items c.args.findings.cells.items
    (length c.args.asked.tables.now.modules) c.requires.tables c.requires.found)

pub check_all-requires-after_bounds : goal.check_all-requires-after_bounds
check_all-requires-after_bounds g c κs within =
    let cert : Cert = record { jitter = c.args.asked.jitter; modules = c.args.findings.cells } in
    cert_fits c.args.asked.text.now c.args.asked.tables.now c.in_ok-typed.typed.tables (program_view c.in_ok-typed.typed.program)
    c.args.findings.regions.items c.deref.result.now c.deref.ensures.value c.args.findings.cells.items c.requires.found c.in_ok-typed.ensures cert refl
    c.requires.low c.requires.in_time c.requires.tables

pub written-requires : goal.written-requires
written-requires g c =
    let cert : Cert = record { jitter = c.args.asked.jitter; modules = c.args.findings.cells } in
    cert_for c.args.asked.text.now c.args.asked.tables.now c.in_ok-typed.typed.tables (program_view c.in_ok-typed.typed.program)
    c.args.findings.regions.items c.deref.result.now c.deref.ensures.value c.args.findings.cells.items c.requires.found c.in_ok-typed.ensures cert refl
    c.requires.low c.requires.in_time c.requires.tables c.in-Ok.ensures.answer.1

pub returns-in-Ok : goal.returns-in-Ok
returns-in-Ok g c = λ p typed.
    let cert : Cert = record { jitter = c.args.asked.jitter; modules = c.args.findings.cells } in
    written_so c.args.asked.text.now c.args.asked.tables.now c.in_ok-typed.typed.tables (program_view c.in_ok-typed.typed.program)
    c.args.findings.regions.items c.deref.result.now c.deref.ensures.value c.args.findings.cells.items c.requires.found c.in_ok-typed.ensures cert refl
    c.requires.low c.requires.in_time c.written.result p typed c.in-Ok.ensures.answer.1 c.written.ensures.status c.written.ensures.text
    c.written.ensures.spelled

pub returns : goal.returns
returns g c = λ p typed.
    let cert : Cert = record { jitter = c.args.asked.jitter; modules = c.args.findings.cells } in
    refused_so c.args.asked.text.now c.args.asked.tables.now c.in_ok-typed.typed.tables (program_view c.in_ok-typed.typed.program)
    c.args.findings.regions.items c.deref.result.now c.deref.ensures.value c.args.findings.cells.items c.requires.found c.in_ok-typed.ensures cert refl
    c.requires.low c.requires.in_time c.refused.result p (refusal_view c.in-Err.refusal) typed c.in-Err.ensures.answer c.refused.ensures.status
    c.refused.ensures.text
