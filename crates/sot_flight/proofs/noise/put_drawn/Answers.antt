use Rattle.std.proofs.Common.{◌≡◌, ◌≤◌, ◌++◌, Some, rules, arith, refl, sym, ap, ◌∙◌, ◌<◌, ◌+◌, take, length, FitsSigned, w64}
use Rattle.std.proofs.lemmas.Option.{slice_get_read, slice_get_within}
use Rattle.std.proofs.lemmas.List.{take_all}
use Rattle.rand_pcg.specs.Pcg.{output_xsh_rr}
use Rattle.sot_lang.specs.Ranges.{bounds}
use Rattle.sot_code.proofs.Filling.{taken_behind, read_word}
use Rattle.sot_flight.specs.Draws.{drawn_from}
use Rattle.sot_random_words.proofs.Words.{words_on}
use Rattle.sot_flight.proofs.Drawn.{drawn_read}
use Rattle.sot_flight.proofs.Bounds.{noise_drawn_at, length-noise_drawn}
use Rattle.sot_flight.proofs.noise.put_drawn.Goals as goal

pub draw-requires : goal.draw-requires
draw-requires c =
    let plant = c.args.plant.now in
    let info = c.index-info.result.now in
    let low : FitsSigned w64 info.lo = search rules in
    let high : FitsSigned w64 info.hi = search rules in
    let below : c.loop-i.i < length plant.noise.items = omega (arith, c.len-i-end.ensures, c.loop-i-test.true, plant.noise.ok.0) in
    let at = slice_get_read plant.noise.items _ c.loop-i.i info refl below c.index-info.ensures in
    rw (read_word info.lo low, read_word info.hi high) (c.requires.narrow.narrow c.loop-i.i info at)

pub loop-i-preserved : goal.loop-i-preserved
loop-i-preserved c =
    let k = c.loop-i.invariant in
    let plant = c.args.plant.now in
    let info = c.index-info.result.now in
    let low : FitsSigned w64 info.lo = search rules in
    let high : FitsSigned w64 info.hi = search rules in
    let fits : FitsSigned w64 c.draw.result = search rules in
    let below : c.loop-i.i < length plant.noise.items = omega (arith, c.len-i-end.ensures, c.loop-i-test.true, plant.noise.ok.0) in
    let here = slice_get_read plant.noise.items _ c.loop-i.i info refl below c.index-info.ensures in
    let value = drawn_read c.args.spread info.lo info.hi c.draw.result _ _ low high c.draw.ensures.value (ap (λ g. output_xsh_rr g.state) k.words) in
    let at = noise_drawn_at plant c.loop-i.i info here c.args.spread c.args.seed c.args.stream c.args.given ∙ ap Some (sym value) in
    let inside : c.args.first + c.loop-i.i < length c.loop-i.numbers = omega (arith, k.size, c.requires.room, below) in
    record {
      words = words_on c.args.seed c.args.stream c.args.given c.loop-i.i c.loop-i.words c.draw.new.words k.words c.draw.ensures.next;
      size = search (rules, k.size);
      front =
          rw (read_word c.draw.result fits) (taken_behind c.loop-i.numbers (drawn_from c.args.spread c.args.seed c.args.stream c.args.given (bounds plant))
          (take c.args.first c.args.numbers.now) c.args.first c.loop-i.i c.draw.result inside (slice_get_within _ _ _ at) k.front at);
    }

pub returns-clause-front : goal.returns-clause-front
returns-clause-front c =
    let plant = c.args.plant.now in
    let size = length-noise_drawn plant c.args.spread c.args.seed c.args.stream c.args.given in
    let past : length plant.noise.items ≤ c.loop-i.i = omega (arith, c.len-i-end.ensures, c.loop-i-test.false, plant.noise.ok.0) in
    let all : c.loop-i.i ≡ length plant.noise.items = omega (arith, past, c.len-i-end.ensures, c.loop-i.auto.i-end, plant.noise.ok.0) in
    ap (λ n. take (c.args.first + n) c.loop-i.numbers) (sym all) ∙ c.loop-i.invariant.front
    ∙ ap (λ l. take c.args.first c.args.numbers.now ++ l) (take_all c.loop-i.i _ (omega (arith, size, past)))
