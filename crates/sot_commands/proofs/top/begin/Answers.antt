use Rattle.std.proofs.Common.{subst}
use Rattle.sot_commands.specs.declared.reply.Reply.{Reply}
use Rattle.sot_commands.specs.Steps.{WordReply}
use Rattle.sot_commands.proofs.Endings.{ends_said}
use Rattle.sot_commands.proofs.Ordered.{said_late}
use Rattle.sot_commands.proofs.top.begin.Goals as goal

pub returns-in-Ok-Said-clause-ended : goal.returns-in-Ok-Said-clause-ended
returns-in-Ok-Said-clause-ended g c =
    let ok = subst (λ (x : Reply). WordReply c.args.guests c.args.words.now (g.S.Source.left c.args.source.now) (g.S.Source.left c.reply_to.new.source) x)
    c.in-Ok-Said.field-0-is c.in-Ok-Said.ensures.ok in
    ends_said _ _ _ _ c.in-Ok-Said.answer.text.items c.in-Ok-Said.answer.status _ ok.0 c.in-Ok-Said.ensures.well c.say.ensures

pub returns-in-Ok-Said-clause-leaves : goal.returns-in-Ok-Said-clause-leaves
returns-in-Ok-Said-clause-leaves g c = λ asks.
    let ok = subst (λ (x : Reply). WordReply c.args.guests c.args.words.now (g.S.Source.left c.args.source.now) (g.S.Source.left c.reply_to.new.source) x)
    c.in-Ok-Said.field-0-is c.in-Ok-Said.ensures.ok in
    said_late _ _ _ _ c.in-Ok-Said.answer.status c.in-Ok-Said.answer.text.items _ (ok.1 asks) c.say.ensures
