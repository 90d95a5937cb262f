use Rattle.std.proofs.Common.{◌≡◌, ◌∙◌, true, ap, sym, subst}
use Rattle.std.specs.Prelude.{MatchResult}
use Rattle.sot_lang.specs.Tables.{Tables}
use Rattle.sot_tube.specs.Admitted.{Admitted}
use Rattle.sot_world.specs.Configurations.{Configuration, is_left}
use Rattle.sot_world.specs.Events.{RefusesNode}
use Rattle.sot_world.specs.NodeSorts.{IsCodedNode, IsExternalNode}
use Rattle.sot_replay.proofs.firing.can_fire.Goals as goal

pub can-requires : goal.can-requires
can-requires c =
    subst (λ (p : Tables). IsCodedNode p c.args.node) (c.typed.ensures ∙ sym (ap (λ (a : Admitted). a.program) c.world.ensures.accepted))
    (c.is_coded.ensures.coded c.if-is_coded.true)

pub returns-then-is_coded : goal.returns-then-is_coded
returns-then-is_coded c =
    let b = c.args.board.now in
    let one = subst (λ (a : Admitted). MatchResult c.can.result (λ x. is_left c.world.result.now.at c.args.node ≡ true)
    (λ why. RefusesNode a.program a.cert.jitter c.world.result.now.at c.args.node why)) c.world.ensures.accepted c.can.ensures in
    subst (λ (C : Configuration). MatchResult c.can.result (λ x. is_left C c.args.node ≡ true)
    (λ why. RefusesNode b.accepted.program b.accepted.cert.jitter C c.args.node why)) c.world.ensures.at one

pub can-requires-2 : goal.can-requires-2
can-requires-2 c =
    subst (λ (p : Tables). IsExternalNode p c.args.node) (c.typed.ensures ∙ sym (ap (λ (a : Admitted). a.program) c.world-2.ensures.accepted))
    (c.is_coded.ensures.external c.if-is_coded.false)

pub returns : goal.returns
returns c =
    let b = c.args.board.now in
    let one = subst (λ (a : Admitted). MatchResult c.can-2.result (λ x. is_left c.world-2.result.now.at c.args.node ≡ true)
    (λ why. RefusesNode a.program a.cert.jitter c.world-2.result.now.at c.args.node why)) c.world-2.ensures.accepted c.can-2.ensures in
    subst (λ (C : Configuration). MatchResult c.can-2.result (λ x. is_left C c.args.node ≡ true)
    (λ why. RefusesNode b.accepted.program b.accepted.cert.jitter C c.args.node why)) c.world-2.ensures.at one
