use Rattle.std.proofs.Common.{◌+◌, ◌<◌, length, sym, ◌∙◌, subst, arith, rules}
use Rattle.sot_workers.specs.Threads.{is_tried, AreNoted}
use Rattle.sot_workers.proofs.Noted.{noted_more}
use Rattle.sot_workers.proofs.rule.tried_each.Goals as goal

pub loop-node-preserved : goal.loop-node-preserved
loop-node-preserved c =
    let k = c.loop-node.node in
    let p = c.args.p.now in
    let inv = c.loop-node.invariant in
    let pushed = c.push_reserved.ensures in
    let there : k < length p.nodes = search rules in
    let noted = c.is_noted-is_long.ensures ∙ c.requires.long.is k there in
    record {
      count = omega (arith, pushed.len, inv.count);
      room = omega (arith, pushed.capacity, inv.room);
      noted = subst (AreNoted (k + 1) (is_tried p c.args.flight.now)) (sym pushed.items)
          (noted_more k (is_tried p c.args.flight.now) c.loop-node.tried.items c.is_tried.result inv.noted
          (c.is_tried.ensures p c.is_small-small.ensures noted));
    }
