use Rattle.std.proofs.Common.{◌++◌, [], map, take, slice_index_or, append_assoc, sym, ap, ◌∙◌, arith}
use Rattle.std.proofs.lemmas.List.{map-append}
use Rattle.std.proofs.lemmas.Option.{slice_get-get_or}
use Rattle.sot_lists.proofs.Places.{read_or}
use Rattle.sot_box.specs.Boxes.{point_box}
use Rattle.sot_box.specs.Sides.{Side}
use Rattle.sot_lang.specs.Ticks.{joined}
use Rattle.sot_world.proofs.Parts.{joined_more}
use Rattle.sot_guard.proofs.outside.put_seen.Goals as goal

pub loop-i-preserved : goal.loop-i-preserved
loop-i-preserved c =
    let k = c.loop-i.invariant in
    let at = slice_get-get_or c.args.sees.now c.loop-i.i 0 c.loop-i-test.true in
    let point = read_or c.args.points.now _ _ [] (c.requires.there c.loop-i.i _ at) c.index-points-sees.is in
    let before = joined (map (λ j. slice_index_or c.args.points.now j []) (take c.loop-i.i c.args.sees.now)) in
    record {
      few = omega (arith, k.few, c.put_point.ensures.few);
      sides = c.put_point.ensures.sides ∙ ap (λ l. l ++ point_box c.index-points-sees.result) k.sides
          ∙ append_assoc c.args.sides.now (point_box before) (point_box c.index-points-sees.result)
          ∙ ap (λ l. c.args.sides.now ++ l) (sym (map-append (λ x. let r : Side = record { lo = x; hi = x } in r) before c.index-points-sees.result)
          ∙ ap point_box (ap (λ x. before ++ x) point ∙ sym (joined_more (λ j. slice_index_or c.args.points.now j []) c.args.sees.now c.loop-i.i _ at)));
    }
