use Rattle.std.proofs.Common.{◌≡◌, ◌<◌, ◌*◌, ◌+◌, pos, Some, length, get_or, refl, sym, ap, ◌∙◌, subst, arith, rules, FitsSigned, w64}
use Rattle.std.proofs.lemmas.Option.{slice_get_read, slice_get-get_or}
use Rattle.rand_pcg.specs.Pcg.{output_xsh_rr}
use Rattle.sot_lists.specs.Places.{At}
use Rattle.sot_code.proofs.Filling.{read_word}
use Rattle.sot_random_words.specs.Words.{word}
use Rattle.sot_flight.specs.Draws.{turn}
use Rattle.sot_flight.specs.Stated.{noise_of}
use Rattle.sot_flight.specs.Fits.{FitsSway}
use Rattle.sot_flight.specs.FlightView.{sway_of}
use Rattle.sot_flight.proofs.Drawn.{drawn_read}
use Rattle.sot_flight.proofs.Bounds.{low_at, high_at, noise_drawn_at}
use Rattle.sot_flight.proofs.Fitting.{listed_size}
use Rattle.sot_flight.proofs.noise.noise_at.Goals as goal

pub bounds-row_of-i : goal.bounds-row_of-i
bounds-row_of-i c =
    let plant = c.args.plant.now in
    let fits = subst (λ s. FitsSway plant (sway_of s)) c.in-Listed.is c.requires.fits in
    omega (arith, listed_size plant _ c.args.tick fits, ap length c.row_of.ensures, c.requires.there)

pub draw-requires : goal.draw-requires
draw-requires c =
    let plant = c.args.plant.now in
    let info = c.index-info.result.now in
    let low : FitsSigned w64 info.lo = search rules in
    let high : FitsSigned w64 info.hi = search rules in
    let at = slice_get_read plant.noise.items _ c.args.i info refl c.requires.there c.index-info.ensures in
    rw (read_word info.lo low, read_word info.hi high) (c.requires.narrow.narrow c.args.i info at)

pub returns-in-Low : goal.returns-in-Low
returns-in-Low c =
    let plant = c.args.plant.now in
    let info = c.index-info.result.now in
    let low : FitsSigned w64 info.lo = search rules in
    let at = slice_get_read plant.noise.items _ c.args.i info refl c.requires.there c.index-info.ensures in
    rw (read_word info.lo low) (subst (λ s. At (noise_of plant (sway_of s) c.args.tick) c.args.i info.lo) (sym c.in-Low.is) (low_at plant c.args.i info at))

pub returns-in-High : goal.returns-in-High
returns-in-High c =
    let plant = c.args.plant.now in
    let info = c.index-info.result.now in
    let high : FitsSigned w64 info.hi = search rules in
    let at = slice_get_read plant.noise.items _ c.args.i info refl c.requires.there c.index-info.ensures in
    rw (read_word info.hi high) (subst (λ s. At (noise_of plant (sway_of s) c.args.tick) c.args.i info.hi) (sym c.in-High.is) (high_at plant c.args.i info at))

pub returns-in-Listed : goal.returns-in-Listed
returns-in-Listed c =
    let plant = c.args.plant.now in
    let row = c.row_of.result.now in
    let fits = subst (λ s. FitsSway plant (sway_of s)) c.in-Listed.is c.requires.fits in
    let lt : c.args.i < length row = omega (arith, listed_size plant _ c.args.tick fits, ap length c.row_of.ensures, c.requires.there) in
    let number : FitsSigned w64 (get_or row c.args.i (pos 0)) = search rules in
    rw (read_word (get_or row c.args.i (pos 0)) number)
    (subst (λ l. At l c.args.i (get_or row c.args.i (pos 0))) (c.row_of.ensures ∙ ap (λ s. noise_of plant (sway_of s) c.args.tick) (sym c.in-Listed.is))
    (slice_get-get_or row c.args.i (pos 0) lt))

pub returns-in-Drawn : goal.returns-in-Drawn
returns-in-Drawn c =
    let plant = c.args.plant.now in
    let info = c.index-info.result.now in
    let low : FitsSigned w64 info.lo = search rules in
    let high : FitsSigned w64 info.hi = search rules in
    let fits : FitsSigned w64 c.draw.result = search rules in
    let at = slice_get_read plant.noise.items _ c.args.i info refl c.requires.there c.index-info.ensures in
    let len : c.len.result ≡ length plant.noise.items = omega (arith, c.len.ensures, plant.noise.ok.0) in
    let spread = c.in-Drawn.spread in
    let turns = turn spread c.args.tick in
    let turned : c.from.result ≡ turns = c.from.ensures ∙ c.turn_of-turn.ensures.value in
    let given : c.from.result * c.len.result ≡ turns * length plant.noise.items = ap (λ n. n * c.len.result) turned ∙ ap (λ n. turns * n) len in
    let same = ap (λ g. output_xsh_rr g.state) c.words_from-words.ensures ∙ ap (λ n. word c.in-Drawn.seed c.in-Drawn.stream (n + c.args.i)) given in
    let value = drawn_read spread info.lo info.hi c.draw.result _ _ low high c.draw.ensures.value same in
    let here = noise_drawn_at plant c.args.i info at spread c.in-Drawn.seed c.in-Drawn.stream (turns * length plant.noise.items) ∙ ap Some (sym value) in
    rw (read_word c.draw.result fits) (subst (λ s. At (noise_of plant (sway_of s) c.args.tick) c.args.i c.draw.result) (sym c.in-Drawn.is) here)
