use Rattle.std.proofs.Common.{◌∙◌, sym, arith}
use Rattle.sot_trace_lines.proofs.LentLines.{ends}
use Rattle.sot_trace_lines.proofs.lines.without_end.Goals as goal

pub returns-in-len1-up : goal.returns-in-len1-up
returns-in-len1-up c = c.without_return.ensures ∙ sym (ends c.args.line.now (omega arith) c.if-last-eq10.true)
