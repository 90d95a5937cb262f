use Rattle.std.proofs.Common.{rules, arith, refl, ◌<◌, ◌+◌, take, length, FitsSigned, w64}
use Rattle.std.proofs.lemmas.Option.{slice_get_read, slice_get_within}
use Rattle.sot_box.specs.Boxes.{highs}
use Rattle.sot_lang.specs.Ranges.{bounds}
use Rattle.sot_code.proofs.Filling.{taken_behind, read_word}
use Rattle.sot_flight.proofs.Bounds.{high_at}
use Rattle.sot_flight.proofs.noise.put_highs.Goals as goal

pub loop-i-preserved : goal.loop-i-preserved
loop-i-preserved c =
    let k = c.loop-i.invariant in
    let plant = c.args.plant.now in
    let bound = c.index.result.now.hi in
    let fits : FitsSigned w64 bound = search rules in
    let below : c.loop-i.i < length plant.noise.items = omega (arith, c.len-i-end.ensures, c.loop-i-test.true, plant.noise.ok.0) in
    let at = high_at plant c.loop-i.i c.index.result.now (slice_get_read plant.noise.items _ c.loop-i.i _ refl below c.index.ensures) in
    let inside : c.args.first + c.loop-i.i < length c.loop-i.numbers = omega (arith, k.size, c.requires, below) in
    record {
      size = search (rules, k.size);
      front =
          rw (read_word bound fits) (taken_behind c.loop-i.numbers (highs (bounds plant)) (take c.args.first c.args.numbers.now) c.args.first c.loop-i.i bound
          inside (slice_get_within _ _ _ at) k.front at);
    }
