use Rattle.std.proofs.Common.{arith, ◌∙◌}
use Rattle.std.proofs.Math.ListN.{length-set}
use Rattle.sot_certify.proofs.Filling.{filled}
use Rattle.std.specs.Prelude.{slice_set}
use Rattle.sot_certify.proofs.halves.with_side.Goals as goal

pub loop-i-preserved : goal.loop-i-preserved
loop-i-preserved c = record {
  four = length-set _ _ _ ∙ c.loop-i.invariant.four;
  done =
      filled c.loop-i.sides (slice_set c.args.cell.now c.args.axis c.args.side) c.loop-i.i c.side_or.result (omega (arith, c.loop-i.invariant.four))
      c.side_or.ensures c.loop-i.invariant.done;
}
