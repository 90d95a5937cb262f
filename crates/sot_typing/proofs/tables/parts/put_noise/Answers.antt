-- Of `put_noise`: what its calls ask for, that its loop keeps what it says, and its promises.
use Rattle.std.proofs.Common.{◌∙◌, ◌∷◌, [], ◌++◌, map, refl, sym, ap, subst}
use Rattle.sot_typing.specs.Resolved.{noise_info}
use Rattle.sot_typing.specs.Parts.{FieldFits}
use Rattle.sot_typing.proofs.Listings.{add_next, add_done}
use Rattle.sot_typing.proofs.tables.parts.put_noise.Goals as goal

pub noise_info-requires : goal.noise_info-requires
noise_info-requires c = subst FieldFits (sym c.f-item.is) (c.requires c.loop-f.f-index c.f-item.result c.loop-f-test.true)

pub loop-f-preserved : goal.loop-f-preserved
loop-f-preserved c =
    add_next (λ ts. ts) (λ xs. map noise_info xs) (λ x. noise_info x ∷ []) (λ x more. refl) refl c.args.noise.now c.loop-f.f-index c.loop-f.infos.items _
    c.loop-f.invariant c.f-item.result c.loop-f-test.true c.f-item.is _
    (c.in_ok-push.ensures.items ∙ ap (λ i. c.loop-f.infos.items ++ i ∷ []) c.in_ok-noise_info.ensures)

pub returns : goal.returns
returns c =
    add_done (λ ts. ts) (λ xs. map noise_info xs) (λ x. noise_info x ∷ []) (λ x more. refl) refl c.args.noise.now c.loop-f.f-index c.loop-f.infos.items _
    c.loop-f.invariant c.loop-f-test.false
