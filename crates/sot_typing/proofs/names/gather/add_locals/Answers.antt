-- Of `add_locals`: that its loop keeps what it says, and its promises.
use Rattle.std.proofs.Common.{[], ◌∷◌, map, refl, ap, ◌∙◌, ◌++◌}
use Rattle.sot_syntax_tree.specs.TreeViews.{local_view}
use Rattle.sot_rules.specs.Names.{local_thing}
use Rattle.sot_typing.specs.Things.{things_in}
use Rattle.sot_typing.proofs.Listings.{add_next, add_done}
use Rattle.sot_typing.proofs.names.gather.add_locals.Goals as goal

pub loop-l-preserved : goal.loop-l-preserved
loop-l-preserved c =
    add_next things_in (λ xs. map local_thing (map local_view xs)) (λ x. local_thing (local_view x) ∷ []) (λ x more. refl) refl c.args.locals.now
    c.loop-l.l-index c.loop-l.things.items _ c.loop-l.invariant c.l-item.result c.loop-l-test.true c.l-item.is _
    (c.in_ok-add.ensures ∙ ap (λ z. things_in c.loop-l.things.items ++ z ∷ []) c.local_thing.ensures)

pub returns : goal.returns
returns c =
    add_done things_in (λ xs. map local_thing (map local_view xs)) (λ x. local_thing (local_view x) ∷ []) (λ x more. refl) refl c.args.locals.now
    c.loop-l.l-index c.loop-l.things.items _ c.loop-l.invariant c.loop-l-test.false
