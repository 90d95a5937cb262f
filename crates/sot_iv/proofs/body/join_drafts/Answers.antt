use Rattle.std.proofs.Common.{rules}
use Rattle.sot_iv.proofs.Joins.{drafts_step, left_step}
use Rattle.sot_iv.proofs.body.join_drafts.Goals as goal

pub loop-i-preserved : goal.loop-i-preserved
loop-i-preserved c =
    let k = c.loop-i.invariant in
    let lt = c.loop-i-test.true in
    record {
      size = search (rules, k.size);
      done =
          drafts_step c.args.first.now c.args.second.now c.loop-i.second c.loop-i.i c.index-first-i.result c.index-second-i.result c.join_draft.result lt
          c.requires k.size c.index-first-i.is c.index-second-i.is c.join_draft.ensures k.done k.left;
      left = left_step c.args.second.now c.loop-i.second c.loop-i.i c.join_draft.result k.left;
    }
