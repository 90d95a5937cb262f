use Rattle.std.proofs.Common.{rules, sym, subst, arith}
use Rattle.sot_turn.specs.Places.{IsIdle}
use Rattle.sot_turn.proofs.Drawing.{draws_keep}
use Rattle.sot_turn.proofs.turn.seats.draw.Goals as goal

pub compare_exchange-found-requires : goal.compare_exchange-found-requires
compare_exchange-found-requires g c =
    let idle = subst (λ me. IsIdle me.0) (sym c.loop.invariant.1) c.requires.idle in
    (search rules, search rules, draws_keep g.G.Journal.ground g.G.Journal.entries _ _ _ _ idle (omega arith))
