use Rattle.std.proofs.Common.{◌∙◌, arith, rules}
use Rattle.std.proofs.lemmas.List.{length-set}
use Rattle.sot_recover.proofs.Sides.{around_more, around_whole}
use Rattle.sot_recover.proofs.hull.widened.Goals as goal

pub loop-i-preserved : goal.loop-i-preserved
loop-i-preserved c =
    let l = c.loop-i in
    let v = c.around.result in
    record {
      four = length-set l.sides l.i v ∙ l.invariant.four;
      first = around_more l.sides c.args.a.now l.i v c.side.result l.invariant.first c.side.ensures c.around.ensures.lows.0 c.around.ensures.highs.0;
      second =
          around_more l.sides c.args.b.now l.i v c.side-in-loop-i.result l.invariant.second c.side-in-loop-i.ensures c.around.ensures.lows.1
          c.around.ensures.highs.1;
    }

pub returns-clause-first : goal.returns-clause-first
returns-clause-first c =
    let end = c.loop-i-test.false in
    let width = c.len-i-end.ensures.value in
    around_whole c.loop-i.sides c.args.a.now c.unwrap.result c.len.result c.loop-i.i c.loop-i.invariant.first (omega (arith, end, width)) (search rules)

pub returns-clause-second : goal.returns-clause-second
returns-clause-second c =
    let end = c.loop-i-test.false in
    let width = c.len-i-end.ensures.value in
    let same = c.requires in
    around_whole c.loop-i.sides c.args.b.now c.unwrap.result c.len.result c.loop-i.i c.loop-i.invariant.second (omega (arith, end, width, same)) (search rules)
