use Rattle.sot_rta.specs.Refused.{refusal_view}
use Rattle.sot_regions_program.proofs.Forms.{refused_result, searched_result, in_time_of}
use Rattle.sot_regions_program.proofs.reply.of_tables.Goals as goal

pub returns-in-Ok : goal.returns-in-Ok
returns-in-Ok g c = λ p typed.
    let t = c.args.asked.tables.now in
    let jitter = c.args.asked.jitter in
    searched_result c.at_last.result p t jitter (in_time_of c.is_late.result t jitter c.is_late.ensures c.if-is_late.false, c.in-Ok.ensures)
    (c.at_last.ensures p typed)

pub returns-in-Err : goal.returns-in-Err
returns-in-Err g c = λ p typed.
    let t = c.args.asked.tables.now in
    let jitter = c.args.asked.jitter in
    refused_result c.refused.result p t jitter (refusal_view c.in-Err.refusal) (in_time_of c.is_late.result t jitter c.is_late.ensures c.if-is_late.false)
    c.in-Err.ensures c.refused.ensures.status c.refused.ensures.text
