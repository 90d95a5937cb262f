use Rattle.std.proofs.Common.{arith}
use Rattle.sot_cli.proofs.Endings.{input_result}
use Rattle.sot_bridge.specs.Answers.{Replies}
use Rattle.sot_bridge.proofs.top.perform.Goals as goal

pub reply_of-requires-clause-short : goal.reply_of-requires-clause-short
reply_of-requires-clause-short g c κs within = omega (arith, c.deref.ensures.len, c.in-Ok.ensures.within)

pub returns-in-Ok-clause-ok : goal.returns-in-Ok-clause-ok
returns-in-Ok-clause-ok g c =
    input_result (Replies c.args.ask.from.now c.args.ask.to.now c.args.ask.delay) c.or_memory.result c.reply_of.result (g.S.Source.left c.args.source.now)
    (g.S.Source.left c.read_input.new.source) c.deref.result.now c.in-Ok.bytes.items c.or_memory.ensures c.deref.ensures.value
    (omega (arith, c.deref.ensures.len, c.in-Ok.ensures.within)) c.in-Ok.ensures.ok c.reply_of.ensures
