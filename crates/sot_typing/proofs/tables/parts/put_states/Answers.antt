-- Of `put_states`: what its calls ask for, that its loop keeps what it says, and its promises.
use Rattle.std.proofs.Common.{◌∙◌, ◌∷◌, [], ◌++◌, map, refl, sym, ap, subst}
use Rattle.sot_typing.specs.Resolved.{state_info}
use Rattle.sot_typing.specs.Parts.{StateFits}
use Rattle.sot_typing.proofs.Listings.{add_next, add_done}
use Rattle.sot_typing.proofs.tables.parts.put_states.Goals as goal

pub state_info-requires : goal.state_info-requires
state_info-requires c = subst StateFits (sym c.s-item.is) (c.requires c.loop-s.s-index c.s-item.result c.loop-s-test.true)

pub loop-s-preserved : goal.loop-s-preserved
loop-s-preserved c =
    add_next (λ ts. ts) (λ xs. map state_info xs) (λ x. state_info x ∷ []) (λ x more. refl) refl c.args.states.now c.loop-s.s-index c.loop-s.infos.items _
    c.loop-s.invariant c.s-item.result c.loop-s-test.true c.s-item.is _
    (c.in_ok-push.ensures.items ∙ ap (λ i. c.loop-s.infos.items ++ i ∷ []) c.in_ok-state_info.ensures)

pub returns : goal.returns
returns c =
    add_done (λ ts. ts) (λ xs. map state_info xs) (λ x. state_info x ∷ []) (λ x more. refl) refl c.args.states.now c.loop-s.s-index c.loop-s.infos.items _
    c.loop-s.invariant c.loop-s-test.false
