use Rattle.std.proofs.Common.{◌∙◌, sym}
use Rattle.sot_world.proofs.Words.{told_as}
use Rattle.sot_world.proofs.recorded.lent.Goals as goal

pub returns-in-0 : goal.returns-in-0
returns-in-0 c = c.lent_one.ensures c.args.numbers.now ∙ sym (told_as c.args.numbers.now 0 c.args.word c.in-0.is)

pub returns-in-1 : goal.returns-in-1
returns-in-1 c = c.lent_decision.ensures c.args.numbers.now ∙ sym (told_as c.args.numbers.now 1 c.args.word c.in-1.is)
