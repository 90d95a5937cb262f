use Rattle.std.proofs.Common.{◌<◌, ◌<ℤ◌, length, refl, ◌∙◌, arith, rules, FitsSigned, w64}
use Rattle.std.proofs.lemmas.Int.{ints}
use Rattle.std.proofs.lemmas.Option.{slice_get_read}
use Rattle.sot_lang.specs.Ranges.{bounds}
use Rattle.sot_code.proofs.Filling.{read_word}
use Rattle.sot_flight.proofs.Bounds.{bound_at}
use Rattle.sot_flight.proofs.RangeLists.{range_more}
use Rattle.sot_flight.proofs.ranges.bounds_of.Goals as goal

pub unreachable-requires : goal.unreachable-requires
unreachable-requires c =
    let plant = c.args.plant.now in
    let info = c.index-info.result.now in
    let low : FitsSigned w64 info.lo = search rules in
    let high : FitsSigned w64 info.hi = search rules in
    let below : c.loop-i.i < length plant.noise.items = omega (arith, c.len-i-end.ensures, c.loop-i-test.true, plant.noise.ok.0) in
    let narrow = c.requires.narrow c.loop-i.i info (slice_get_read plant.noise.items _ c.loop-i.i info refl below c.index-info.ensures) in
    let ordered = narrow.0 in
    let less : info.hi <ℤ info.lo = rw (read_word info.lo low, read_word info.hi high) at c.in-None.ensures in
    omega (arith, ints, ordered, less)

pub loop-i-preserved : goal.loop-i-preserved
loop-i-preserved c =
    let plant = c.args.plant.now in
    let info = c.index-info.result.now in
    let low : FitsSigned w64 info.lo = search rules in
    let high : FitsSigned w64 info.hi = search rules in
    let below : c.loop-i.i < length plant.noise.items = omega (arith, c.len-i-end.ensures, c.loop-i-test.true, plant.noise.ok.0) in
    let at = bound_at plant c.loop-i.i info (slice_get_read plant.noise.items _ c.loop-i.i info refl below c.index-info.ensures) in
    let is = c.in-Some.ensures in
    c.in_ok-push-in-Some.ensures.items
    ∙ range_more c.loop-i.found.items (bounds plant) c.loop-i.i c.in-Some.range _ at c.loop-i.invariant (is.0 ∙ read_word info.lo low)
    (is.1 ∙ read_word info.hi high)
