use Rattle.std.proofs.Common.{rules, arith}
use Rattle.sot_test_runs.proofs.Entries.{one_more, longer, none_yet}
use Rattle.sot_test_runs.proofs.certificates.stairs.Goals as goal

pub loop-h-init : goal.loop-h-init
loop-h-init c = record {
  width = search rules;
  boxes = search rules;
  each = none_yet 2 _ c.none-region.ensures.empty;
}

pub loop-h-preserved : goal.loop-h-preserved
loop-h-preserved c = record {
  width = search rules;
  boxes = omega (arith, longer c.loop-h.region.boxes c.push.new.self.boxes c.unwrap-cell.result c.in_default.ensures.ok);
  each =
      one_more 2 c.loop-h.region.boxes c.push.new.self.boxes c.unwrap-cell.result c.loop-h.invariant.each (search rules) c.len-sides.ensures.ordered
      c.in_default.ensures.ok;
}

pub returns : goal.returns
returns c = record {
  width = c.loop-h.invariant.width;
  boxes = omega (arith, c.loop-h.invariant.boxes, c.loop-h.auto.h-end);
  each = c.loop-h.invariant.each;
}
