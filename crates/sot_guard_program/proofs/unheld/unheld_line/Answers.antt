use Rattle.std.proofs.Common.{◌≡◌, ℕ, ℤ, ◌<◌, List, [], length, sym, ap, ◌∙◌, subst, slice_index_or, arith}
use Rattle.std.proofs.lemmas.Option.{same_Some, slice_get_within}
use Rattle.sot_lists.specs.Places.{At}
use Rattle.sot_lists.proofs.Places.{read_at}
use Rattle.sot_lang.specs.declared.tables.ModuleInfo.{ModuleInfo}
use Rattle.sot_lang.specs.Tables.{Tables}
use Rattle.sot_lang.specs.TableRules.{MeetsTableRules}
use Rattle.sot_world.proofs.Starting.{read_list}
use Rattle.sot_report.specs.RefusalTexts.{start_text}
use Rattle.sot_guard_program.proofs.unheld.unheld_line.Goals as goal

-- a module's plant has a start
plant_there : (p : Tables) (starts : List (List ℤ)) (m : ℕ) (a : ModuleInfo) → MeetsTableRules p → length starts ≡ length p.plants → At p.modules m a
    → a.plant < length starts
plant_there p starts m a rules all at =
    let plant = rules.typed.plant_is m a at in
    omega (arith, slice_get_within p.plants a.plant plant.0 plant.1, all)

pub bounds-starts-plant : goal.bounds-starts-plant
bounds-starts-plant c =
    let rules = subst MeetsTableRules c.p.view_is c.p.invariant in
    let at = read_at _ _ c.args.module _ (ap (λ t. t.modules) c.p.view_is) c.requires.there c.index.ensures in
    plant_there c.args.p.now c.args.starts.now c.args.module c.index.result.now rules c.requires.all at

pub returns : goal.returns
returns c = λ a is.
    let rules = subst MeetsTableRules c.p.view_is c.p.invariant in
    let starts = c.args.starts.now in
    let at = read_at _ _ c.args.module _ (ap (λ t. t.modules) c.p.view_is) c.requires.there c.index.ensures in
    let there = plant_there c.args.p.now starts c.args.module c.index.result.now rules c.requires.all at in
    let same : c.index.result.now ≡ a = same_Some _ _ (sym at ∙ is) in
    let point = read_list starts _ _ there c.index-starts-plant.is in
    let of_info = ap (λ x. slice_index_or starts x.plant []) same in
    c.in_ok-line.ensures ∙ ap (λ x. start_text c.args.p.now c.args.module x) (point ∙ of_info)
