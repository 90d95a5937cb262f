use Rattle.sot_trace_lines.proofs.Fronts.{front_answered}
use Rattle.sot_trace_lines.proofs.front.read_front.Goals as goal

pub returns : goal.returns
returns c = front_answered c.args.p.now c.args.line.now c.front.new.numbers.items c.front.result c.keeps_rules.ensures c.requires.words c.front.ensures
