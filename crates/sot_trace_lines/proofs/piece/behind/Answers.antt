use Rattle.sot_trace_lines.proofs.Pieces.{stripped}
use Rattle.sot_trace_lines.proofs.piece.behind.Goals as goal

pub returns : goal.returns
returns c = stripped c.args.text.now c.args.front.now c.strip_prefix.result c.strip_prefix.ensures.cases
