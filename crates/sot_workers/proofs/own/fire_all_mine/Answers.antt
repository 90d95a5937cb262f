use Rattle.std.proofs.Common.{refl, ◌∙◌}
use Rattle.sot_workers.proofs.Effects.{same_again}
use Rattle.sot_workers.proofs.Histories.{goes_here, goes_further}
use Rattle.sot_workers.proofs.own.fire_all_mine.Goals as goal

pub loop-node-init : goal.loop-node-init
loop-node-init c = record {
  left_dm = refl;
  turn = λ may. c.requires.turn;
  same = record { accepted = refl; plan = refl; time = refl };
  goes_on = goes_here c.args.board.now.entries;
  lists = c.requires.lists;
  room = c.requires.room;
}

pub loop-node-preserved : goal.loop-node-preserved
loop-node-preserved c =
    let start = c.args.board.now in
    let old = c.loop-node.board in
    let inv = c.loop-node.invariant in
    let did = c.fire_in_order-may.ensures in
    record {
      left_dm = did.left_dm ∙ inv.left_dm;
      turn = did.behind;
      same = same_again start old c.fire_in_order-may.new.board inv.same did.same;
      goes_on = goes_further start.entries old.entries c.fire_in_order-may.new.board.entries inv.goes_on did.goes_on;
      lists = did.lists;
      room = did.room;
    }

pub fire_in_order-may-requires-clause-turn : goal.fire_in_order-may-requires-clause-turn
fire_in_order-may-requires-clause-turn c = c.loop-node.invariant.turn
