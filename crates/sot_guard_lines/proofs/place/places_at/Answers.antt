use Rattle.std.proofs.Common.{◌+◌, ◌∷◌, drop, sym, ap, ◌∙◌, arith}
use Rattle.std.proofs.lemmas.List.{drop_more}
use Rattle.sot_guard_lines.proofs.KeptPlaces.{placed}
use Rattle.sot_guard_lines.proofs.Room.{left_over}
use Rattle.sot_guard_lines.proofs.place.places_at.Goals as goal

pub loop-plant-preserved : goal.loop-plant-preserved
loop-plant-preserved c =
    let l = c.loop-plant in
    let k = l.invariant in
    let plants = c.args.plants.now in
    let at = drop_more plants l.plant-index c.plant-item.result c.loop-plant-test.true ∙ ap (λ x. x ∷ drop (l.plant-index + 1) plants) (sym c.plant-item.is) in
    record {
      read =
          placed plants l.plant-index c.plant-item.result (l.numbers.items, l.whole) (c.place_at.new.numbers.items, c.in-Some.read.whole) l.rest.now
          c.in-Some.read.rest.now at (sym c.in-Some.ensures.read)
          ∙ k.read;
      len = left_over plants l.plant-index c.plant-item.result c.args.numbers.now l.numbers c.place_at.new.numbers at k.len k.capacity c.place_at.ensures.room;
      capacity = omega (arith, k.capacity, c.place_at.ensures.room.capacity);
    }
