use Rattle.sot_bridge.proofs.Endings.{word_result, silence_result}
use Rattle.sot_bridge.proofs.top.answer_to.Goals as goal

pub perform-requires-clause-delay : goal.perform-requires-clause-delay
perform-requires-clause-delay g c κs within = c.in-Ok.ensures.ok.1

pub returns-in-Ok-clause-ok : goal.returns-in-Ok-clause-ok
returns-in-Ok-clause-ok g c =
    let ask = c.in-Ok.ask in
    word_result c.perform.result c.args.words.now ask.from.now ask.to.now ask.delay (g.S.Source.left c.args.source.now)
    (g.S.Source.left c.perform.new.source) c.in-Ok.ensures.ok c.perform.ensures.ok

pub returns-in-Ok-clause-err : goal.returns-in-Ok-clause-err
returns-in-Ok-clause-err g c =
    let ask = c.in-Ok.ask in
    silence_result c.perform.result c.args.words.now ask.from.now ask.to.now ask.delay (g.S.Source.faults c.args.source.now)
    (g.S.Source.faults c.perform.new.source) c.in-Ok.ensures.ok c.perform.ensures.err

pub returns-in-Ok-clause-untouched : goal.returns-in-Ok-clause-untouched
returns-in-Ok-clause-untouched g c = λ none. absurd (none c.in-Ok.ask.from.now c.in-Ok.ask.to.now c.in-Ok.ask.delay c.in-Ok.ensures.ok)
