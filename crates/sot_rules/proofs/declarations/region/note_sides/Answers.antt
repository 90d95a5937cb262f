-- Of `note_sides`: that its loop keeps what it says, and its promises.
use Rattle.std.proofs.Common.{◌≤◌, ◌∙◌, Some, false, ap, sym, arith, map, length, get_or, option_map, refl}
use Rattle.std.proofs.lemmas.List.{length-map}
use Rattle.std.proofs.lemmas.Option.{slice_get-map, slice_get_read, slice_get-get_or}
use Rattle.sot_rules.specs.Sorts.{state_sort}
use Rattle.sot_rules.specs.Faults.{bounds_faults}
use Rattle.sot_rules.proofs.Pairs.{no_bounds, step_pairs, no_pairs}
use Rattle.sot_rules.proofs.declarations.region.note_sides.Goals as goal

pub loop-i-preserved : goal.loop-i-preserved
loop-i-preserved c =
    let states = c.args.states.now in
    let sides = c.args.sides.now in
    let i = c.loop-i.i in
    step_pairs (λ x. bounds_faults false x.0 x.1) (map state_sort states) sides i
    c.state_sort.result (get_or sides i no_bounds) _ _ _
    (slice_get-map state_sort states i ∙ ap (option_map state_sort)
    (slice_get_read states (length states) i c.index-states-i.result refl (omega arith) c.index-states-i.is) ∙ ap (λ s. Some s) (sym c.state_sort.ensures))
    (slice_get-get_or sides i no_bounds c.loop-i-test.true) c.loop-i.invariant c.note_bounds.ensures

pub returns : goal.returns
returns c =
    let short : length (map state_sort c.args.states.now) ≤ c.loop-i.i = omega (arith, length-map c.args.states.now state_sort) in
    no_pairs (λ x. bounds_faults false x.0 x.1) (map state_sort c.args.states.now) c.args.sides.now c.loop-i.i
    _ _ short c.loop-i.invariant
