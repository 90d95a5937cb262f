use Rattle.sot_trace_lines.proofs.piece.negative_at.Goals as goal

pub returns-in-Some : goal.returns-in-Some
returns-in-Some c = c.below_one_digit.ensures c.args.text.now c.in-Some.ensures.read
