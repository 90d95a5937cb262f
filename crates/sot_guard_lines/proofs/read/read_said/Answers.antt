use Rattle.std.proofs.Common.{refl}
use Rattle.sot_guard_lines.specs.Readers.{said_at}
use Rattle.sot_guard_lines.proofs.ShownSaid.{answers}
use Rattle.sot_guard_lines.proofs.read.read_said.Goals as goal

pub returns-clause-said : goal.returns-clause-said
returns-clause-said c =
    answers c.args.p.now c.args.line.now c.read.new.numbers.items c.read.result (said_at c.args.p.now c.args.line.now) c.keeps_rules.ensures
    c.requires.words refl c.read.ensures.said
