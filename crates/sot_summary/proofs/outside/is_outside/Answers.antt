use Rattle.std.proofs.Common.{◌∙◌, ◌<◌, ◌≤◌, List, length, sym, ap, subst, arith}
use Rattle.sot_lang.specs.TableRules.{MeetsTableRules}
use Rattle.sot_lang.specs.declared.tables.PlantInfo.{PlantInfo}
use Rattle.sot_lists.proofs.Places.{read_at}
use Rattle.sot_summary.specs.Fronts.{AreFronts}
use Rattle.sot_summary.proofs.Points.{module_width, module_some, module_few}
use Rattle.sot_summary.proofs.outside.is_outside.Goals as goal

pub states_of-at-requires-clause-few : goal.states_of-at-requires-clause-few
states_of-at-requires-clause-few c =
    let tables = c.p.view_is in
    let rules = subst MeetsTableRules tables c.p.invariant in
    let plants = c.deref.ensures.value ∙ ap (λ t. t.plants) tables in
    subst (λ (ks : List PlantInfo). length ks ≤ 100) (sym plants) rules.plant_count

pub states_of-at-requires-clause-fronts : goal.states_of-at-requires-clause-fronts
states_of-at-requires-clause-fronts c =
    let plants = c.deref.ensures.value ∙ ap (λ t. t.plants) c.p.view_is in
    subst (λ (ks : List PlantInfo). AreFronts ks c.args.fronts.now) (sym plants) c.requires.fronts

pub is_in_region-requires-clause-width : goal.is_in_region-requires-clause-width
is_in_region-requires-clause-width c =
    let tables = c.p.view_is in
    let rules = subst MeetsTableRules tables c.p.invariant in
    let lt : c.loop-m.m < length c.p.inside.modules.items = omega (arith, c.loop-m-test.true, c.len-m-end.ensures, c.p.inside.modules.ok.0) in
    let at = read_at _ _ c.loop-m.m _ (ap (λ t. t.modules) tables) (subst (λ l. c.loop-m.m < length l) (ap (λ t. t.modules) tables) lt) c.index-info.ensures in
    let plants = c.deref.ensures.value ∙ ap (λ t. t.plants) tables in
    module_width c.args.p.now rules c.loop-m.m c.index-info.result.now at c.args.states.now c.deref.result.now c.states_of-at.result.now c.requires.size plants
    c.states_of-at.ensures

pub is_in_region-requires-clause-some : goal.is_in_region-requires-clause-some
is_in_region-requires-clause-some c =
    let tables = c.p.view_is in
    let rules = subst MeetsTableRules tables c.p.invariant in
    let lt : c.loop-m.m < length c.p.inside.modules.items = omega (arith, c.loop-m-test.true, c.len-m-end.ensures, c.p.inside.modules.ok.0) in
    let at = read_at _ _ c.loop-m.m _ (ap (λ t. t.modules) tables) (subst (λ l. c.loop-m.m < length l) (ap (λ t. t.modules) tables) lt) c.index-info.ensures in
    let plants = c.deref.ensures.value ∙ ap (λ t. t.plants) tables in
    module_some c.args.p.now rules c.loop-m.m c.index-info.result.now at c.args.states.now c.deref.result.now c.states_of-at.result.now c.requires.size plants
    c.states_of-at.ensures

pub is_in_region-requires-clause-few : goal.is_in_region-requires-clause-few
is_in_region-requires-clause-few c =
    let tables = c.p.view_is in
    let rules = subst MeetsTableRules tables c.p.invariant in
    let lt : c.loop-m.m < length c.p.inside.modules.items = omega (arith, c.loop-m-test.true, c.len-m-end.ensures, c.p.inside.modules.ok.0) in
    let at = read_at _ _ c.loop-m.m _ (ap (λ t. t.modules) tables) (subst (λ l. c.loop-m.m < length l) (ap (λ t. t.modules) tables) lt) c.index-info.ensures in
    let plants = c.deref.ensures.value ∙ ap (λ t. t.plants) tables in
    module_few c.args.p.now rules c.loop-m.m c.index-info.result.now at c.args.states.now c.deref.result.now c.states_of-at.result.now c.requires.size plants
    c.states_of-at.ensures
