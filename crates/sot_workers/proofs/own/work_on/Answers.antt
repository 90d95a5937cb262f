use Rattle.std.proofs.Common.{arith}
use Rattle.sot_workers.proofs.Effects.{tick_time}
use Rattle.sot_workers.proofs.Going.{goes_on_same, goes_on_again, tick_goes_on, tick_keeps}
use Rattle.sot_workers.proofs.Rooms.{room_moved}
use Rattle.sot_workers.proofs.Turns.{turn_of_tick}
use Rattle.sot_workers.proofs.own.work_on.Goals as goal

pub work_instant-requires-in-ticks : goal.work_instant-requires-in-ticks
work_instant-requires-in-ticks c = record {
  lists = tick_keeps c.ticks.board c.tick.new.self _ c.tick.ensures.0 c.args.away.now c.ticks.lists.items c.tick.ensures.1 c.ticks.invariant.lists;
  room = room_moved c.ticks.board c.tick.new.self c.args.away.now c.ticks.lists.items c.tick.ensures.1.accepted c.tick.ensures.1.plan c.ticks.invariant.room;
}

pub ticks-init : goal.ticks-init
ticks-init c = record {
  goes_on = goes_on_same c.args.board.now c.work_instant.new.board c.work_instant.ensures.same c.work_instant.ensures.goes_on;
  decided = c.work_instant.ensures.decided;
  lists = c.work_instant.ensures.lists;
  room = c.work_instant.ensures.room;
}

pub ticks-preserved : goal.ticks-preserved
ticks-preserved c =
    let start = c.args.board.now in
    let old = c.ticks.board in
    let later = c.tick.new.self in
    let work = c.work_instant-in-ticks in
    record {
      goes_on = goes_on_again start old work.new.board c.ticks.invariant.goes_on
          (goes_on_again old later work.new.board (tick_goes_on old later _ c.tick.ensures.0 c.tick.ensures.1)
          (goes_on_same later work.new.board work.ensures.same work.ensures.goes_on));
      decided = work.ensures.decided;
      lists = work.ensures.lists;
      room = work.ensures.room;
    }

pub tick-requires-clause-turn : goal.tick-requires-clause-turn
tick-requires-clause-turn c =
    let fine = c.if-may_go_on.true in
    turn_of_tick c.ticks.board (c.may_go_on.ensures.may fine).1 c.ticks.invariant.decided (c.may_go_on.ensures.fired fine)

pub ticks-smaller : goal.ticks-smaller
ticks-smaller c =
    omega (
      arith,
      tick_time c.ticks.board c.tick.new.self _ c.tick.ensures.0 c.tick.ensures.1,
      c.work_instant-in-ticks.ensures.same.time,
      c.time.ensures,
      c.ticks-test.true,
    )
