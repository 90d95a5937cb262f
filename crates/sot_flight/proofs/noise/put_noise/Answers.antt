use Rattle.std.proofs.Common.{◌+◌, ◌++◌, length, take, sym, ap, ◌∙◌, subst, arith}
use Rattle.sot_flight.specs.Stated.{noise_of}
use Rattle.sot_flight.specs.Fits.{FitsSway}
use Rattle.sot_flight.specs.FlightView.{sway_of}
use Rattle.sot_flight.proofs.Fitting.{listed_size}
use Rattle.sot_flight.proofs.noise.put_noise.Goals as goal

pub put_row-requires : goal.put_row-requires
put_row-requires c =
    let plant = c.args.plant.now in
    let fits = subst (λ s. FitsSway plant (sway_of s)) c.in-Listed.is c.requires.fits in
    omega (arith, listed_size plant _ c.args.tick fits, ap length c.row_of.ensures, c.requires.room)

pub returns-in-Listed-clause-front : goal.returns-in-Listed-clause-front
returns-in-Listed-clause-front c =
    let plant = c.args.plant.now in
    let fits = subst (λ s. FitsSway plant (sway_of s)) c.in-Listed.is c.requires.fits in
    let size = ap length c.row_of.ensures ∙ listed_size plant _ c.args.tick fits in
    ap (λ n. take (c.args.first + n) c.put_row.new.numbers) (sym size) ∙ c.put_row.ensures.front
    ∙ ap (λ l. take c.args.first c.args.numbers.now ++ l) (c.row_of.ensures ∙ ap (λ s. noise_of plant (sway_of s) c.args.tick) (sym c.in-Listed.is))
