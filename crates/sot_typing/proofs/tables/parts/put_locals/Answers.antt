-- Of `put_locals`: what its calls ask for, that its loop keeps what it says, and its promises.
use Rattle.std.proofs.Common.{◌∙◌, ◌∷◌, [], ◌++◌, map, refl, sym, ap, subst}
use Rattle.sot_syntax_tree.specs.TreeViews.{local_view}
use Rattle.sot_typing.specs.Resolved.{local_info}
use Rattle.sot_typing.specs.Parts.{LocalFits}
use Rattle.sot_typing.proofs.Listings.{add_next, add_done}
use Rattle.sot_typing.proofs.tables.parts.put_locals.Goals as goal

pub local_info-requires : goal.local_info-requires
local_info-requires c = subst (λ l. LocalFits (local_view l)) (sym c.l-item.is) (c.requires c.loop-l.l-index c.l-item.result c.loop-l-test.true)

pub loop-l-preserved : goal.loop-l-preserved
loop-l-preserved c =
    add_next (λ ts. ts) (λ xs. map local_info (map local_view xs)) (λ x. local_info (local_view x) ∷ []) (λ x more. refl) refl c.args.locals.now
    c.loop-l.l-index c.loop-l.infos.items _ c.loop-l.invariant c.l-item.result c.loop-l-test.true c.l-item.is _
    (c.in_ok-push.ensures.items ∙ ap (λ i. c.loop-l.infos.items ++ i ∷ []) c.in_ok-local_info.ensures)

pub returns : goal.returns
returns c =
    add_done (λ ts. ts) (λ xs. map local_info (map local_view xs)) (λ x. local_info (local_view x) ∷ []) (λ x more. refl) refl c.args.locals.now
    c.loop-l.l-index c.loop-l.infos.items _ c.loop-l.invariant c.loop-l-test.false
