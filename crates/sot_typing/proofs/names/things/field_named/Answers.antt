-- Of `field_named`: that it never fails, that its loop keeps what it says, and its promises.
use Rattle.std.proofs.Common.{◌∙◌, arith}
use Rattle.sot_rules.specs.Names.{field_part}
use Rattle.sot_typing.proofs.Searches.{tested, none_left, found_next, place_next, place_here, sort_here}
use Rattle.sot_typing.proofs.names.things.field_named.Goals as goal

pub loop-place-preserved : goal.loop-place-preserved
loop-place-preserved c =
    let i = c.loop-place.invariant in
    let other = tested _ _ _ _ _ _ c.eq.ensures c.bytes_of.ensures c.as_bytes.ensures c.if-eq.false in
    record {
      found =
          found_next field_part c.args.name.now c.args.fields.now c.loop-place.place c.index-fields-place.result c.loop-place-test.true c.index-fields-place.is
          i.found i.place other;
      place =
          place_next field_part c.args.name.now c.args.fields.now c.loop-place.place c.index-fields-place.result c.loop-place-test.true c.index-fields-place.is
          i.found i.place other;
    }

pub returns-then-eq-clause-place : goal.returns-then-eq-clause-place
returns-then-eq-clause-place c =
    let i = c.loop-place.invariant in
    let same = tested _ _ _ _ _ _ c.eq.ensures c.bytes_of.ensures c.as_bytes.ensures c.if-eq.true in
    place_here field_part c.args.name.now c.args.fields.now c.loop-place.place c.index-fields-place.result c.loop-place-test.true c.index-fields-place.is
    i.found i.place same

pub returns-then-eq-clause-sort : goal.returns-then-eq-clause-sort
returns-then-eq-clause-sort c =
    let i = c.loop-place.invariant in
    let same = tested _ _ _ _ _ _ c.eq.ensures c.bytes_of.ensures c.as_bytes.ensures c.if-eq.true in
    c.scalar_sort.ensures
    ∙ sort_here field_part c.args.name.now c.args.fields.now c.loop-place.place c.index-fields-place.result c.loop-place-test.true c.index-fields-place.is
    i.found i.place same

pub unreachable-requires : goal.unreachable-requires
unreachable-requires c =
    none_left field_part c.args.name.now c.args.fields.now c.loop-place.place (omega (arith, c.loop-place-test.false)) c.loop-place.invariant.found c.requires
