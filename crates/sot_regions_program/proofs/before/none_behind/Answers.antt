use Rattle.std.proofs.Common.{◌≡◌, ℕ, List, sym, subst, arith}
use Rattle.sot_syntax_tree.specs.TreeViews.{program_view}
use Rattle.sot_lang.specs.declared.cert.Cert.{Cert}
use Rattle.sot_parser.specs.Programs.{Spells}
use Rattle.sot_syntax_tree.specs.Trees.{Program}
use Rattle.sot_regions_rewrite.specs.declared.modules.ModuleRegions.{ModuleRegions}
use Rattle.sot_regions_rewrite.specs.OtherRegions.{with_regions}
use Rattle.sot_report.specs.Missions.{Resolves}
use Rattle.sot_rta.specs.Refused.{refusal_view}
use Rattle.sot_regions_program.specs.Steps.{MayTake, ArePadded}
use Rattle.sot_regions_program.proofs.Forms.{told_few, none_result}
use Rattle.sot_regions_program.proofs.NoRegions.{searched_boxes, names_module}
use Rattle.sot_regions_program.proofs.Spelled.{may_take, taken_boxes, taken_count}
use Rattle.sot_regions_program.proofs.Missions.{first_fit, have_regions, refused_first}
use Rattle.sot_regions_program.proofs.before.none_behind.Goals as goal

pub typed_with-requires-clause-may : goal.typed_with-requires-clause-may
typed_with-requires-clause-may g c =
    let none = c.requires.none in
    subst (λ (rs : List ModuleRegions). MayTake c.args.asked.text.now rs) (sym c.deref.ensures.value)
    (may_take c.args.asked.text.now c.args.asked.tables.now c.args.before.regions.items c.args.before.cells.items none.0 c.requires.tables none.1)

pub padded-requires : goal.padded-requires
padded-requires g c =
    let none = c.requires.none in
    let t = c.args.asked.tables.now in
    let u = c.in_ok-typed.typed.tables in
    let changed = program_view c.in_ok-typed.typed.program in
    let typed = subst (λ (rs : List ModuleRegions). (p : Program) → Spells c.args.asked.text.now 0 p
    → (changed ≡ with_regions rs p) × Resolves (with_regions rs p) u) c.deref.ensures.value c.in_ok-typed.ensures in
    let few = told_few t c.args.asked.jitter none.0 c.args.refusal.now none.2 in
    let counted = none.1.cells_count in
    let same = taken_count c.args.asked.text.now t u changed c.args.before.regions.items c.args.before.cells.items none.0 none.1 typed c.requires.tables in
    omega (arith, few, counted, same, c.count_of.ensures)

pub check_some-requires-clause-fits : goal.check_some-requires-clause-fits
check_some-requires-clause-fits g c κs within =
    let none = c.requires.none in
    let t = c.args.asked.tables.now in
    let u = c.in_ok-typed.typed.tables in
    let cert : Cert = record { jitter = c.args.asked.jitter; modules = c.in_ok-padded.field-0 } in
    first_fit c.args.asked.text.now t u (program_view c.in_ok-typed.typed.program) c.args.before.regions.items c.deref.result.now
    c.deref.ensures.value c.args.before.cells.items none.0 none.1 (told_few t c.args.asked.jitter none.0 c.args.refusal.now none.2)
    c.in_ok-typed.ensures cert
    (subst (λ (n : ℕ). ArePadded c.args.before.cells.items c.in_ok-padded.field-0.items n) c.count_of.ensures c.in_ok-padded.ensures)
    c.requires.tables c.requires.searched.0

pub check_some-requires-clause-boxes : goal.check_some-requires-clause-boxes
check_some-requires-clause-boxes g c κs within =
    let none = c.requires.none in
    let t = c.args.asked.tables.now in
    let u = c.in_ok-typed.typed.tables in
    let changed = program_view c.in_ok-typed.typed.program in
    let typed = subst (λ (rs : List ModuleRegions). (p : Program) → Spells c.args.asked.text.now 0 p
    → (changed ≡ with_regions rs p) × Resolves (with_regions rs p) u) c.deref.ensures.value c.in_ok-typed.ensures in
    taken_boxes c.args.asked.text.now t u changed c.args.before.regions.items c.args.before.cells.items none.0 none.1 typed c.requires.tables
    (searched_boxes t c.args.asked.jitter c.requires.searched)

pub returns-in-Ok : goal.returns-in-Ok
returns-in-Ok g c = λ p typed.
    let none = c.requires.none in
    let t = c.args.asked.tables.now in
    let u = c.in_ok-typed.typed.tables in
    let cert : Cert = record { jitter = c.args.asked.jitter; modules = c.in_ok-padded.field-0 } in
    let before = have_regions c.args.asked.text.now t u (program_view c.in_ok-typed.typed.program) c.args.before.regions.items c.deref.result.now
    c.deref.ensures.value c.args.before.cells.items none.0 none.1 (told_few t c.args.asked.jitter none.0 c.args.refusal.now none.2)
    c.in_ok-typed.ensures cert
    (subst (λ (n : ℕ). ArePadded c.args.before.cells.items c.in_ok-padded.field-0.items n) c.count_of.ensures c.in_ok-padded.ensures)
    p typed c.in-Ok.ensures in
    none_result c.no_regions.result p t c.args.asked.jitter c.args.refusal.now
    (names_module p t c.args.asked.jitter none.0 typed.1 c.requires.searched (λ less. before) c.args.refusal.now none.2)
    c.no_regions.ensures.status c.no_regions.ensures.text

pub returns : goal.returns
returns g c = λ p typed.
    let none = c.requires.none in
    let t = c.args.asked.tables.now in
    let u = c.in_ok-typed.typed.tables in
    let cert : Cert = record { jitter = c.args.asked.jitter; modules = c.in_ok-padded.field-0 } in
    refused_first c.args.asked.text.now t u (program_view c.in_ok-typed.typed.program) c.args.before.regions.items c.deref.result.now
    c.deref.ensures.value c.args.before.cells.items none.0 none.1 (told_few t c.args.asked.jitter none.0 c.args.refusal.now none.2)
    c.in_ok-typed.ensures cert
    (subst (λ (n : ℕ). ArePadded c.args.before.cells.items c.in_ok-padded.field-0.items n) c.count_of.ensures c.in_ok-padded.ensures)
    c.refused.result p (refusal_view c.in-Err.refusal) typed c.in-Err.ensures c.refused.ensures.status c.refused.ensures.text
