-- Of `note_free_sides`: that its loop keeps what it says.
use Rattle.std.proofs.Common.{refl, false, map, List, get_or}
use Rattle.std.specs.Prelude.{flat_map}
use Rattle.std.proofs.lemmas.Option.{slice_get-get_or}
use Rattle.sot_syntax_tree.specs.declared.tree.Bounds.{Bounds}
use Rattle.sot_rules.specs.declared.expressions.sort.Sort.{Sort}
use Rattle.sot_rules.specs.declared.expressions.sort.Sort.TheVariants.{Anything}
use Rattle.sot_rules.specs.Faults.{bounds_faults}
use Rattle.sot_rules.proofs.Loops.{step_got}
use Rattle.sot_rules.proofs.Pairs.{no_bounds}
use Rattle.sot_rules.proofs.declarations.region.note_free_sides.Goals as goal

pub loop-side-preserved : goal.loop-side-preserved
loop-side-preserved c =
    let sides = c.args.sides.now in
    let i = c.loop-side.side-index in
    step_got (λ (bs : List Bounds). flat_map (λ (x : Sort × Bounds). bounds_faults false x.0 x.1) (map (λ s. (Anything, s)) bs))
    (λ s. bounds_faults false Anything s) (λ x more. refl)
    sides i (get_or sides i no_bounds) _ _ _ (slice_get-get_or sides i no_bounds c.loop-side-test.true) c.loop-side.invariant c.note_bounds.ensures
