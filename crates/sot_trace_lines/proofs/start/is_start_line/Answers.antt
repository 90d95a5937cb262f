use Rattle.std.proofs.Common.{◌↔◌, sym, subst}
use Rattle.std.specs.Prelude.{IsTrue}
use Rattle.sot_trace_lines.specs.Spelled.{IsStartLine}
use Rattle.sot_trace_lines.proofs.StartLines.{starts_is}
use Rattle.sot_trace_lines.proofs.start.is_start_line.Goals as goal

pub returns : goal.returns
returns c = subst (λ b. IsTrue b ↔ IsStartLine c.args.p.now c.args.line.now) (sym c.is_spelled.ensures) (starts_is c.args.p.now c.args.line.now)
