use Rattle.std.proofs.Common.{rules, ap, ◌∙◌}
use Rattle.sot_lang.specs.Tables.{Tables}
use Rattle.sot_compose.proofs.Strangers.{shares, related, not_written, not_written_too}
use Rattle.sot_compose.proofs.outputs.is_stranger.Goals as goal

pub returns-then-not-writes-clause-related : goal.returns-then-not-writes-clause-related
returns-then-not-writes-clause-related c e = not_written c.args.p.now c.args.topic c.args.node c.writes.result c.writes.ensures (search rules) c.args.other

pub returns-then-not-writes-2-clause-related : goal.returns-then-not-writes-2-clause-related
returns-then-not-writes-2-clause-related c e =
    not_written_too c.args.p.now c.args.topic c.args.node c.args.other c.writes-2.result c.writes-2.ensures (search rules)

pub returns-clause-shares : goal.returns-clause-shares
returns-clause-shares c e =
    shares c.args.p.now c.args.topic c.args.node c.args.other c.writes.result c.writes-2.result c.are_partners.result _ c.writes.ensures c.writes-2.ensures
    c.are_partners.ensures (c.deref.ensures.value ∙ ap (λ (t : Tables). t.modules) c.p.view_is) (search rules) (search rules) e

pub returns-clause-related : goal.returns-clause-related
returns-clause-related c e =
    related c.args.p.now c.args.topic c.args.node c.args.other c.are_partners.result _ c.are_partners.ensures
    (c.deref.ensures.value ∙ ap (λ (t : Tables). t.modules) c.p.view_is) e
