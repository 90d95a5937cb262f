use Rattle.std.proofs.Common.{◌≡◌, ◌∷◌, Some, rules, sym, ap, ◌∙◌, subst}
use Rattle.atomic_table.specs.Table.{rest}
use Rattle.sot_turn.specs.Places.{Waits}
use Rattle.sot_turn.proofs.Looking.{looks_keep}
use Rattle.sot_turn.proofs.turn.seats.serve.Goals as goal

pub load-served-requires : goal.load-served-requires
load-served-requires g c =
    let waits = subst (λ me. Waits c.args.ticket me) (sym c.loop.invariant.1) c.requires.waits in
    (search rules, search rules, looks_keep g.G.Journal.ground g.G.Journal.entries _ _ _ c.requires.place.2 waits.1 waits.2)

pub exchange-requires : goal.exchange-requires
exchange-requires g c =
    let waits = subst (λ me. Waits c.args.ticket me) (sym c.loop.invariant.1) c.requires.waits in
    let hit : c.load-served.result ≡ c.args.ticket = search rules in
    let told = c.load-served.ensures.2.0 (waits.0 ∙ ap Some (sym hit)) in
    let taken = ap (λ m. m.1) told.1 ∙ ap (λ slots. (0, Some told.0) ∷ slots) waits.3 in
    (search rules, (Some told.0, taken ∙ ap (λ slots. (0, Some told.0) ∷ rest slots) (sym taken)))
