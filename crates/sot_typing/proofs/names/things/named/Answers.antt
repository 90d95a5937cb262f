-- Of `named`: that it never fails, that its loop keeps what it says, and its promises.
use Rattle.std.proofs.Common.{◌+◌, arith, ap, ◌∙◌}
use Rattle.sot_rules.specs.Scopes.{field_in}
use Rattle.sot_typing.proofs.Searches.{tested, read_next, thing_next, room_next, thing_here, thing_within}
use Rattle.sot_typing.proofs.names.things.named.Goals as goal

pub overflow_add-result : goal.overflow_add-result
overflow_add-result c =
    let i = c.loop-x.invariant in
    let same = tested _ _ _ _ _ _ c.eq.ensures c.as_bytes.ensures c.as_bytes-in-loop-x.ensures c.if-eq.true in
    let place = c.part_named-part.ensures.place c.args.first.now _ same in
    let within = thing_within c.args.things.now c.args.first.now (field_in c.args.field) c.loop-x.x-index c.loop-x.before i.read c.x-item.result
    c.loop-x-test.true c.x-item.is i.place i.room same c.requires.known in
    omega (arith, place, within, c.requires.few.count)

pub returns-then-eq-clause-place : goal.returns-then-eq-clause-place
returns-then-eq-clause-place c =
    let i = c.loop-x.invariant in
    let same = tested _ _ _ _ _ _ c.eq.ensures c.as_bytes.ensures c.as_bytes-in-loop-x.ensures c.if-eq.true in
    ap (λ z. c.loop-x.before + z) (c.part_named-part.ensures.place c.args.first.now _ same)
    ∙ thing_here c.args.things.now c.args.first.now (field_in c.args.field) c.loop-x.x-index c.loop-x.before i.read c.x-item.result c.loop-x-test.true
    c.x-item.is i.place i.room same c.requires.known

pub returns-then-eq-clause-within : goal.returns-then-eq-clause-within
returns-then-eq-clause-within c =
    let i = c.loop-x.invariant in
    let same = tested _ _ _ _ _ _ c.eq.ensures c.as_bytes.ensures c.as_bytes-in-loop-x.ensures c.if-eq.true in
    let place = c.part_named-part.ensures.place c.args.first.now _ same in
    let within = thing_within c.args.things.now c.args.first.now (field_in c.args.field) c.loop-x.x-index c.loop-x.before i.read c.x-item.result
    c.loop-x-test.true c.x-item.is i.place i.room same c.requires.known in
    omega (arith, place, within, c.requires.few.count)

pub loop-x-preserved : goal.loop-x-preserved
loop-x-preserved c =
    let i = c.loop-x.invariant in
    let other = tested _ _ _ _ _ _ c.eq.ensures c.as_bytes.ensures c.as_bytes-in-loop-x.ensures c.if-eq.false in
    let size = c.size-before.ensures c.x-item.result.name.now.name in
    record {
      read =
          read_next c.args.things.now c.args.first.now (field_in c.args.field) c.loop-x.x-index c.loop-x.before i.read c.x-item.result c.loop-x-test.true
          c.x-item.is other;
      place =
          omega (
            arith,
            size,
            thing_next c.args.things.now c.args.first.now (field_in c.args.field) c.loop-x.x-index c.loop-x.before i.read c.x-item.result
                c.loop-x-test.true c.x-item.is i.place i.room other,
          );
      room =
          omega (
            arith,
            size,
            room_next c.args.things.now c.args.first.now (field_in c.args.field) c.loop-x.x-index c.loop-x.before i.read c.x-item.result
                c.loop-x-test.true c.x-item.is i.place i.room,
          );
    }
