use Rattle.std.proofs.Common.{◌<◌, length, refl, sym, ap, subst, arith, rules, FitsSigned, w64}
use Rattle.std.proofs.lemmas.List.{length-map}
use Rattle.std.proofs.lemmas.Option.{slice_get_read}
use Rattle.sot_lists.specs.Places.{At}
use Rattle.sot_lists.proofs.Places.{read_at, at_map}
use Rattle.sot_code.proofs.Filling.{read_word}
use Rattle.sot_flight.specs.FlightView.{sway_of}
use Rattle.sot_flight.proofs.Fitting.{narrow_noise, stated_at}
use Rattle.sot_flight.proofs.flight.Flight.noise.Goals as goal

pub noise_at-requires-clause-narrow : goal.noise_at-requires-clause-narrow
noise_at-requires-clause-narrow c =
    let plants = ap (λ t. t.plants) c.p.view_is in
    let below : c.args.plant < length c.p.inside.plants.items = omega (arith, c.requires.plant, ap length plants) in
    narrow_noise _ c.p.invariant c.args.plant _ (slice_get_read c.p.inside.plants.items _ c.args.plant _ refl below c.index.ensures)

pub noise_at-requires-clause-fits : goal.noise_at-requires-clause-fits
noise_at-requires-clause-fits c =
    let at = read_at _ _ c.args.plant c.index.result.now (ap (λ t. t.plants) c.p.view_is) c.requires.plant c.index.ensures in
    let sways = ap (λ f. f.sways) c.self.view_is in
    let below : c.args.plant < length c.self.inside.sways.items =
    omega (arith, c.requires.plant, c.requires.fits.1.sways, ap length sways, length-map c.self.inside.sways.items sway_of) in
    let is = subst (λ l. At l c.args.plant (sway_of c.index-2.result.now)) sways
    (at_map sway_of c.self.inside.sways.items c.args.plant _ (slice_get_read c.self.inside.sways.items _ c.args.plant _ refl below c.index-2.ensures)) in
    c.requires.fits.1.swayed c.args.plant _ _ at is

pub noise_at-requires-clause-there : goal.noise_at-requires-clause-there
noise_at-requires-clause-there c =
    let at = read_at _ _ c.args.plant c.index.result.now (ap (λ t. t.plants) c.p.view_is) c.requires.plant c.index.ensures in
    c.requires.there _ at

pub returns : goal.returns
returns c =
    let at = read_at _ _ c.args.plant c.index.result.now (ap (λ t. t.plants) c.p.view_is) c.requires.plant c.index.ensures in
    let sways = ap (λ f. f.sways) c.self.view_is in
    let below : c.args.plant < length c.self.inside.sways.items =
    omega (arith, c.requires.plant, c.requires.fits.1.sways, ap length sways, length-map c.self.inside.sways.items sway_of) in
    let is = subst (λ l. At l c.args.plant (sway_of c.index-2.result.now)) sways
    (at_map sway_of c.self.inside.sways.items c.args.plant _ (slice_get_read c.self.inside.sways.items _ c.args.plant _ refl below c.index-2.ensures)) in
    let number : FitsSigned w64 c.noise_at.result = search rules in
    rw (read_word c.noise_at.result number)
    (subst (λ l. At l c.args.i c.noise_at.result) (sym (stated_at c.args.p.now c.args.self.now c.args.tick c.args.plant _ _ at is)) c.noise_at.ensures)
