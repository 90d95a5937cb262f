use Rattle.std.proofs.Common.{rules, arith, ap, length}
use Rattle.sot_test_runs.proofs.Entries.{one_more, longer, none_yet}
use Rattle.sot_test_runs.proofs.certificates.charged.Goals as goal

pub returns-in-Ok : goal.returns-in-Ok
returns-in-Ok c = record {
  width = search rules;
  boxes = omega (arith, longer c.none-region.result.boxes c.push.new.self.boxes c.unwrap-cell.result c.in-Ok.ensures.ok, ap length c.none-region.ensures.empty);
  each =
      one_more 2 c.none-region.result.boxes c.push.new.self.boxes c.unwrap-cell.result (none_yet 2 _ c.none-region.ensures.empty) (search rules)
      c.len-sides.ensures.ordered c.in-Ok.ensures.ok;
}
