use Rattle.std.proofs.Common.{◌∙◌, ap, length, List, sym}
use Rattle.sot_regions_rewrite.specs.declared.modules.ModuleRegions.{ModuleRegions}
use Rattle.sot_regions_program.proofs.Forms.{none_result, none_before}
use Rattle.sot_regions_program.proofs.NoRegions.{names_module}
use Rattle.sot_regions_program.proofs.before.none_of.Goals as goal

pub returns-then-is_first : goal.returns-then-is_first
returns-then-is_first g c = λ p typed.
    let none = c.requires.none in
    let empty = ap (λ (rs : List ModuleRegions). length rs) (sym c.deref.ensures.value) ∙ c.is_first.ensures.0 c.if-is_first.true in
    none_result c.no_regions.result p c.args.asked.tables.now c.args.asked.jitter c.args.refusal.now
    (names_module p c.args.asked.tables.now c.args.asked.jitter none.0 typed.1 c.requires.searched
    (λ less. absurd (none_before (length c.args.before.regions.items) none.0 empty none.1.regions_count less)) c.args.refusal.now none.2)
    c.no_regions.ensures.status c.no_regions.ensures.text
