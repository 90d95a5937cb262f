use Rattle.std.proofs.Common.{◌≡◌, ◌<◌, ◌≤◌, ◌+◌, ◌++◌, length, map, take, refl, sym, ap, ◌∙◌, arith, length-append}
use Rattle.std.proofs.lemmas.Option.{slice_get_read}
use Rattle.std.proofs.lemmas.List.{take_all, length-map}
use Rattle.sot_lists.proofs.Places.{read_at, at_map}
use Rattle.sot_lang.specs.Ticks.{joined}
use Rattle.sot_flight.specs.Stated.{noise_of, noises}
use Rattle.sot_flight.specs.FlightView.{sway_of}
use Rattle.sot_flight.proofs.Fitting.{narrow_noise, noise_size, noises_at, length-noises, joined_more, joined_room}
use Rattle.sot_flight.proofs.noise.put_all.Goals as goal

pub put_noise-requires-clause-narrow : goal.put_noise-requires-clause-narrow
put_noise-requires-clause-narrow c =
    let plants = ap (λ t. t.plants) c.p.view_is in
    let below : c.loop-k.k < length c.p.inside.plants.items = omega (arith, c.loop-k-test.true, c.len-k-end.ensures, c.p.inside.plants.ok.0) in
    narrow_noise _ c.p.invariant c.loop-k.k _ (slice_get_read c.p.inside.plants.items _ c.loop-k.k _ refl below c.index-plant.ensures)

pub put_noise-requires-clause-fits : goal.put_noise-requires-clause-fits
put_noise-requires-clause-fits c =
    let plants = ap (λ t. t.plants) c.p.view_is in
    let below : c.loop-k.k < length c.args.p.now.plants = omega (arith, c.loop-k-test.true, c.len-k-end.ensures, c.p.inside.plants.ok.0, ap length plants) in
    let at = read_at _ _ c.loop-k.k c.index-plant.result.now plants below c.index-plant.ensures in
    let sway = slice_get_read c.args.sways.now _ c.loop-k.k c.index-sways-k.result refl (omega (arith, below, c.requires.each)) c.index-sways-k.is in
    c.requires.fits c.loop-k.k _ _ at sway

pub put_noise-requires-clause-room : goal.put_noise-requires-clause-room
put_noise-requires-clause-room c =
    let plants = ap (λ t. t.plants) c.p.view_is in
    let below : c.loop-k.k < length c.args.p.now.plants = omega (arith, c.loop-k-test.true, c.len-k-end.ensures, c.p.inside.plants.ok.0, ap length plants) in
    let at = read_at _ _ c.loop-k.k c.index-plant.result.now plants below c.index-plant.ensures in
    let sway = slice_get_read c.args.sways.now _ c.loop-k.k c.index-sways-k.result refl (omega (arith, below, c.requires.each)) c.index-sways-k.is in
    let own = noises_at c.args.p.now.plants (map sway_of c.args.sways.now) c.args.tick c.loop-k.k _ _ at (at_map sway_of c.args.sways.now c.loop-k.k _ sway) in
    let size = noise_size c.index-plant.result.now (sway_of c.index-sways-k.result) c.args.tick (c.requires.fits c.loop-k.k _ _ at sway) in
    let room = joined_room (noises c.args.p.now.plants (map sway_of c.args.sways.now) c.args.tick) c.loop-k.k _ own in
    omega (arith, room, size, c.loop-k.invariant.count, c.loop-k.invariant.size, c.requires.size)

pub loop-k-preserved : goal.loop-k-preserved
loop-k-preserved c =
    let k = c.loop-k.invariant in
    let plants = ap (λ t. t.plants) c.p.view_is in
    let plant = c.index-plant.result.now in
    let below : c.loop-k.k < length c.args.p.now.plants = omega (arith, c.loop-k-test.true, c.len-k-end.ensures, c.p.inside.plants.ok.0, ap length plants) in
    let at = read_at _ _ c.loop-k.k plant plants below c.index-plant.ensures in
    let sway = slice_get_read c.args.sways.now _ c.loop-k.k c.index-sways-k.result refl (omega (arith, below, c.requires.each)) c.index-sways-k.is in
    let all = noises c.args.p.now.plants (map sway_of c.args.sways.now) c.args.tick in
    let own = noises_at c.args.p.now.plants (map sway_of c.args.sways.now) c.args.tick c.loop-k.k _ _ at (at_map sway_of c.args.sways.now c.loop-k.k _ sway) in
    let size = noise_size plant (sway_of c.index-sways-k.result) c.args.tick (c.requires.fits c.loop-k.k _ _ at sway) in
    let len : c.len-count.result ≡ length plant.noise.items = omega (arith, c.len-count.ensures, plant.noise.ok.0) in
    let more = joined_more all c.loop-k.k _ own in
    record {
      size = c.put_noise.ensures.size ∙ k.size;
      count =
          omega (
            arith,
            k.count,
            len,
            size,
            ap length more,
            length-append (joined (take c.loop-k.k all))
                (noise_of plant (sway_of c.index-sways-k.result) c.args.tick),
          );
      front = ap (λ n. take (c.loop-k.count + n) c.put_noise.new.numbers) len ∙ c.put_noise.ensures.front
          ∙ ap (λ l. l ++ noise_of plant (sway_of c.index-sways-k.result) c.args.tick) k.front ∙ sym more;
    }

pub returns : goal.returns
returns c =
    let k = c.loop-k.invariant in
    let plants = ap (λ t. t.plants) c.p.view_is in
    let all = noises c.args.p.now.plants (map sway_of c.args.sways.now) c.args.tick in
    let count = length-noises c.args.p.now.plants (map sway_of c.args.sways.now) c.args.tick (length-map c.args.sways.now sway_of ∙ c.requires.each) in
    let past : length all ≤ c.loop-k.k = omega (arith, count, c.loop-k-test.false, c.len-k-end.ensures, c.p.inside.plants.ok.0, ap length plants) in
    let whole = take_all c.loop-k.k all past in
    let size : length c.loop-k.numbers ≤ c.loop-k.count = omega (arith, k.count, ap (λ l. length (joined l)) whole, k.size, c.requires.size) in
    sym (take_all c.loop-k.count c.loop-k.numbers size) ∙ k.front ∙ ap joined whole
