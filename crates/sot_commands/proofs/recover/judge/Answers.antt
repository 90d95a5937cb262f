use Rattle.std.proofs.Common.{sym, subst, IfOk}
use Rattle.sot_lang.specs.CertRules.{FitsTables}
use Rattle.sot_tube.specs.Admitted.{Admitted}
use Rattle.sot_rta.specs.Refused.{refusal_view}
use Rattle.sot_commands.specs.Steps.{SaysRecovery}
use Rattle.sot_commands.proofs.Recovered.{recovery_result, unrecovered_result}
use Rattle.sot_commands.proofs.recover.judge.Goals as goal

pub recover_accepted-requires : goal.recover_accepted-requires
recover_accepted-requires g c = subst (λ (x : Admitted). FitsTables x.program x.cert) (sym c.in-Ok.ensures.answer.0) c.requires

pub returns-in-Ok : goal.returns-in-Ok
returns-in-Ok g c =
    let answer = c.in-Ok.ensures.answer in
    let says = subst (λ (x : Admitted). IfOk c.recover_accepted.result (λ a. SaysRecovery x.program x.cert a.status a.text.items)) answer.0
    c.recover_accepted.ensures in
    recovery_result c.recover_accepted.result c.args.program.now c.args.cert.now answer.1 c.in-Ok.ensures.safe says

pub returns-in-Err : goal.returns-in-Err
returns-in-Err g c =
    unrecovered_result c.refused.result c.args.program.now c.args.cert.now (refusal_view c.in-Err.refusal) c.in-Err.ensures.answer c.refused.ensures.status
    c.refused.ensures.text
