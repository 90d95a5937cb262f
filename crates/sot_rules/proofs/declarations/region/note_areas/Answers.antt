-- Of `note_areas`: that its loop keeps what it says.
use Rattle.std.proofs.Common.{refl, map, List}
use Rattle.std.specs.Prelude.{flat_map}
use Rattle.sot_syntax_tree.specs.declared.tree.BoxDecl.{BoxDecl}
use Rattle.sot_syntax_tree.specs.TreeViews.{area_view}
use Rattle.sot_rules.specs.Scopes.{sorts_in}
use Rattle.sot_rules.specs.Faults.{area_faults}
use Rattle.sot_rules.proofs.Loops.{step_least}
use Rattle.sot_rules.proofs.declarations.region.note_areas.Goals as goal

pub loop-area-preserved : goal.loop-area-preserved
loop-area-preserved c =
    let width = sorts_in c.args.states in
    step_least (λ (bs : List BoxDecl). flat_map (area_faults width) (map area_view bs)) (λ b. area_faults width (area_view b)) (λ x more. refl)
    c.args.boxes.now c.loop-area.area-index c.area-item.result _ _ _ c.loop-area-test.true c.area-item.is c.loop-area.invariant
    c.note_area.ensures
