use Rattle.std.proofs.Common.{arith, rules, ◌≡◌, ap, sym, ◌∙◌, w64, SFits, to_z, of_z, Some}
use Rattle.std.proofs.lemmas.Int.{to_z-of_z}
use Rattle.std.proofs.Math.ListN.{length-set}
use Rattle.sot_box.specs.Boxes.{lows}
use Rattle.sot_lists.proofs.Places.{at_map}
use Rattle.sot_certify.proofs.Filling.{filled}
use Rattle.sot_certify.proofs.halves.low_corner.Goals as goal

pub loop-i-preserved : goal.loop-i-preserved
loop-i-preserved c =
    let fits : SFits w64 c.at.inside.lo = search rules in
    let same : to_z w64 (of_z w64 c.at.inside.lo) ≡ c.side.result.lo = to_z-of_z w64 c.at.inside.lo fits ∙ ap (λ r. r.lo) c.at.view_is in
    record {
      four = length-set _ _ _ ∙ c.loop-i.invariant.four;
      done = filled c.loop-i.at (lows c.args.cell.now) c.loop-i.i (to_z w64 (of_z w64 c.at.inside.lo)) (omega (arith, c.loop-i.invariant.four))
          (at_map (λ r. r.lo) c.args.cell.now c.loop-i.i c.side.result c.side.ensures ∙ ap Some (sym same)) c.loop-i.invariant.done;
    }
