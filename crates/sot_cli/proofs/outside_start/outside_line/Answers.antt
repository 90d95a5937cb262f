use Rattle.std.proofs.Common.{◌≡◌, [], sym, ap, ◌∙◌, subst, slice_index_or}
use Rattle.std.proofs.lemmas.Option.{same_Some, slice_get_within}
use Rattle.sot_lists.proofs.Places.{read_at}
use Rattle.sot_lang.specs.TableRules.{MeetsTableRules}
use Rattle.sot_world.proofs.Starting.{read_list}
use Rattle.sot_report.specs.RefusalTexts.{start_text}
use Rattle.sot_cli.proofs.Starts.{plant_there}
use Rattle.sot_cli.proofs.outside_start.outside_line.Goals as goal

pub bounds-starts-plant : goal.bounds-starts-plant
bounds-starts-plant c =
    let tables = c.p.view_is in
    let rules = subst MeetsTableRules tables c.p.invariant in
    let first = c.requires.first in
    let within = slice_get_within c.args.p.now.modules c.args.module first.info first.is in
    let at = read_at _ _ c.args.module _ (ap (λ t. t.modules) tables) within c.index.ensures in
    plant_there c.args.p.now c.args.starts.now c.args.module c.index.result.now rules c.requires.all at

pub returns : goal.returns
returns c =
    let tables = c.p.view_is in
    let rules = subst MeetsTableRules tables c.p.invariant in
    let first = c.requires.first in
    let starts = c.args.starts.now in
    let within = slice_get_within c.args.p.now.modules c.args.module first.info first.is in
    let at = read_at _ _ c.args.module _ (ap (λ t. t.modules) tables) within c.index.ensures in
    let there = plant_there c.args.p.now starts c.args.module c.index.result.now rules c.requires.all at in
    let same : c.index.result.now ≡ first.info = same_Some _ _ (sym at ∙ first.is) in
    let point = read_list starts _ _ there c.index-starts-plant.is in
    let of_info = ap (λ a. slice_index_or starts a.plant []) same in
    (c.args.module, first, c.in_ok-line.ensures ∙ ap (λ x. start_text c.args.p.now c.args.module x) (point ∙ of_info))
