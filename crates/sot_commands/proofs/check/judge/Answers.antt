use Rattle.sot_rta.specs.Refused.{refusal_view}
use Rattle.sot_commands.proofs.Forms.{refused_result}
use Rattle.sot_commands.proofs.check.judge.Goals as goal

pub returns-in-Err : goal.returns-in-Err
returns-in-Err g c =
    refused_result c.refused.result c.args.program.now c.args.cert.now (refusal_view c.in-Err.refusal) c.in-Err.ensures.answer c.refused.ensures.status
    c.refused.ensures.text
