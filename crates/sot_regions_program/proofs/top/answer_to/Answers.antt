use Rattle.std.proofs.Common.{Err, ap}
use Rattle.sot_regions_program.proofs.Endings.{word_result, silence_result, usage_result, asks_low}
use Rattle.sot_regions_program.proofs.top.answer_to.Goals as goal

pub perform-requires-clause-jitter : goal.perform-requires-clause-jitter
perform-requires-clause-jitter g c κs within = asks_low c.args.words.now c.in-Ok.jitter c.in-Ok.ensures.ok

pub returns-in-Ok-clause-ok : goal.returns-in-Ok-clause-ok
returns-in-Ok-clause-ok g c =
    word_result c.perform.result c.args.words.now c.in-Ok.jitter (g.S.Source.left c.args.source.now)
    (g.S.Source.left c.perform.new.source) c.in-Ok.ensures.ok c.perform.ensures.ok

pub returns-in-Ok-clause-err : goal.returns-in-Ok-clause-err
returns-in-Ok-clause-err g c =
    silence_result c.perform.result c.args.words.now c.in-Ok.jitter (g.S.Source.faults c.args.source.now)
    (g.S.Source.faults c.perform.new.source) c.in-Ok.ensures.ok c.perform.ensures.err

pub returns-in-Ok-clause-untouched : goal.returns-in-Ok-clause-untouched
returns-in-Ok-clause-untouched g c = λ none. absurd (none c.in-Ok.jitter c.in-Ok.ensures.ok)

pub returns-in-Err-Form-clause-ok : goal.returns-in-Err-Form-clause-ok
returns-in-Err-Form-clause-ok g c =
    usage_result c.or_memory.result c.usage.result c.args.words.now (g.S.Source.left c.args.source.now) (g.S.Source.left c.args.source.now)
    c.or_memory.ensures (c.in-Err-Form.ensures.form (ap (λ e. Err e) c.in-Err-Form.field-0-is)) c.usage.ensures.status c.usage.ensures.text
