use Rattle.std.proofs.Common.{arith}
use Rattle.sot_eval_flat.proofs.Lines.{runs_more}
use Rattle.sot_eval_flat.proofs.compute.run_line.Goals as goal

pub loop-one-preserved : goal.loop-one-preserved
loop-one-preserved c =
    let i = c.loop-one.invariant in
    record {
      first = λ well. i.first (c.act.ensures.first well);
      size = c.act.ensures.size;
      runs = λ well.
          runs_more c.args.line.now c.loop-one.one-index _ _ _ _ (omega arith) (i.runs (c.act.ensures.first well)) (c.act.ensures.does well);
    }
