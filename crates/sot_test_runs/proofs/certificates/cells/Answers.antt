use Rattle.std.proofs.Common.{rules, arith}
use Rattle.sot_test_runs.proofs.Entries.{one_more, longer, none_yet}
use Rattle.sot_test_runs.proofs.certificates.cells.Goals as goal

pub loop-i-init : goal.loop-i-init
loop-i-init c = record {
  width = search rules;
  boxes = search rules;
  each = none_yet 1 _ c.none-region.ensures.empty;
}

pub loop-i-preserved : goal.loop-i-preserved
loop-i-preserved c = record {
  width = search rules;
  boxes = omega (arith, longer c.loop-i.region.boxes c.push.new.self.boxes c.unwrap-cell.result c.in_default.ensures.ok);
  each =
      one_more 1 c.loop-i.region.boxes c.push.new.self.boxes c.unwrap-cell.result c.loop-i.invariant.each (search rules) c.len-sides.ensures.ordered
      c.in_default.ensures.ok;
}

pub returns : goal.returns
returns c = record {
  width = c.loop-i.invariant.width;
  boxes = omega (arith, c.loop-i.invariant.boxes, c.loop-i.auto.i-end, c.min-i-end.ensures);
  each = c.loop-i.invariant.each;
}
