use Rattle.sot_commands.specs.declared.words.Command.TheVariants.{Check, Replay, Recover, Format, Certify}
use Rattle.sot_commands.proofs.Replies.{replied_as}
use Rattle.sot_commands.proofs.reply.reply_of.Goals as goal

pub returns-in-Check : goal.returns-in-Check
returns-in-Check g c =
    replied_as c.args.guests c.args.command Check c.args.bytes.items c.deref.result.now c.said.result c.check.result c.said.ensures c.in-Check.is
    (λ flies. flies) c.deref.ensures.value (c.check.ensures c.args.guests)

pub returns-in-Format : goal.returns-in-Format
returns-in-Format g c =
    replied_as c.args.guests c.args.command Format c.args.bytes.items c.deref-in-Format.result.now c.said-in-Format.result c.format.result
    c.said-in-Format.ensures c.in-Format.is (λ flies. flies) c.deref-in-Format.ensures.value
    (c.format.ensures c.args.guests)

pub returns-in-Certify : goal.returns-in-Certify
returns-in-Certify g c =
    replied_as c.args.guests c.args.command Certify c.args.bytes.items c.deref-in-Certify.result.now c.said-in-Certify.result c.certify.result
    c.said-in-Certify.ensures c.in-Certify.is (λ flies. flies) c.deref-in-Certify.ensures.value
    (c.certify.ensures c.args.guests)

pub returns-in-Replay : goal.returns-in-Replay
returns-in-Replay g c =
    replied_as c.args.guests c.args.command Replay c.args.bytes.items c.deref-in-Replay.result.now c.said-in-Replay.result c.replay.result
    c.said-in-Replay.ensures c.in-Replay.is (λ flies. flies) c.deref-in-Replay.ensures.value c.replay.ensures

pub returns-in-Recover : goal.returns-in-Recover
returns-in-Recover g c =
    replied_as c.args.guests c.args.command Recover c.args.bytes.items c.deref-in-Recover.result.now c.said-in-Recover.result c.recover.result
    c.said-in-Recover.ensures c.in-Recover.is (λ flies. flies) c.deref-in-Recover.ensures.value
    (c.recover.ensures c.args.guests)
