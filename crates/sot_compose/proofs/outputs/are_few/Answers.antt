use Rattle.std.proofs.Common.{ap, ◌∙◌}
use Rattle.sot_lang.specs.Tables.{Tables}
use Rattle.sot_compose.proofs.Strangers.{none_write, one_writes, two_write}
use Rattle.sot_compose.proofs.outputs.are_few.Goals as goal

pub returns-in_default : goal.returns-in_default
returns-in_default c e = none_write c.args.p.now c.args.topic c.in_default.ensures.first

pub returns-in_default-first_writer : goal.returns-in_default-first_writer
returns-in_default-first_writer c e = one_writes c.args.p.now c.args.topic c.in-Some.a c.in-Some.ensures.first c.in_default-first_writer.ensures.first

pub returns-in-None : goal.returns-in-None
returns-in-None c e =
    two_write c.args.p.now c.args.topic c.in-Some.a c.in-Some-first_writer.b c.in-Some.ensures.first c.in-Some-first_writer.ensures.first
    c.in-None.ensures.first
    c.are_partners.result _ c.are_partners.ensures (c.deref.ensures.value ∙ ap (λ (t : Tables). t.modules) c.p.view_is) e
