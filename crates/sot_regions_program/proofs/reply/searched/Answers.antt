use Rattle.sot_regions_program.proofs.Forms.{missed_result}
use Rattle.sot_regions_program.proofs.reply.searched.Goals as goal

pub returns-in-First : goal.returns-in-First
returns-in-First g c = λ p typed. missed_result c.none_of.result p c.args.asked.tables.now c.args.asked.jitter (c.none_of.ensures p typed)
