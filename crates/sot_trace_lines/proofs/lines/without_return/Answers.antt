use Rattle.std.proofs.Common.{◌-◌, length, arith}
use Rattle.sot_text.proofs.Lines.{without_taken, without_kept}
use Rattle.sot_trace_lines.proofs.lines.without_return.Goals as goal

pub returns-in-len1-up : goal.returns-in-len1-up
returns-in-len1-up c = without_taken 13 (length c.args.text.now - 1) 0 c.args.text.now (omega arith) c.if-last-eq13.true

pub returns-in_default-2 : goal.returns-in_default-2
returns-in_default-2 c = without_kept 13 (length c.args.text.now - 1) 0 c.args.text.now (omega arith) c.if-last-eq13.false
