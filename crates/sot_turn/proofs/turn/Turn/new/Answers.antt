use Rattle.sot_turn.proofs.Opening.{opening_kept}
use Rattle.sot_turn.proofs.turn.Turn.new.Goals as goal

pub new-requires : goal.new-requires
new-requires g c =
    rw (c.in_ok-push.ensures.items, c.new-slots.ensures.items, c.of-opening.ensures)
    (opening_kept g.G.Journal.ground g.G.Journal.entries c.args.held c.len-len.result c.len-len.ensures)
