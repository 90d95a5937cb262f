use Rattle.std.proofs.Common.{rules}
use Rattle.sot_iv.proofs.Joins.{hulls_step, left_step}
use Rattle.sot_iv.proofs.body.join_locals.Goals as goal

pub loop-i-preserved : goal.loop-i-preserved
loop-i-preserved c =
    let k = c.loop-i.invariant in
    let lt = c.loop-i-test.true in
    record {
      size = search (rules, k.size);
      done =
          hulls_step c.args.first.now c.args.second.now c.loop-i.second c.loop-i.i c.index-first-i.result c.index-second-i.result c.hull_with.result lt
          c.requires k.size c.index-first-i.is c.index-second-i.is c.hull_with.ensures k.done k.left;
      left = left_step c.args.second.now c.loop-i.second c.loop-i.i c.hull_with.result k.left;
    }
