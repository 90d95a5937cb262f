use Rattle.std.proofs.Common.{◌≡◌, ◌-◌, ◌<◌, ◌++◌, List, length, ap, sym, subst, arith}
use Rattle.std.specs.Prelude.{OnOk}
use Rattle.std.specs.String.{string_bytes}
use Rattle.sot_lists.proofs.Places.{read_at}
use Rattle.sot_lang.specs.Tables.{Tables}
use Rattle.sot_replay.proofs.OpeningPlaces.{later_is}
use Rattle.sot_replay.proofs.opening.put_opening_line.Goals as goal

pub offset_bounds-start-place : goal.offset_bounds-start-place
offset_bounds-start-place c = omega (arith, c.requires.place, c.p.invariant.plant_count, ap (λ t. length t.plants) c.p.view_is)

pub bounds-start-place : goal.bounds-start-place
bounds-start-place c = omega (arith, c.requires.place, c.if-place-eq0.false, c.requires.fits.1.starts, ap length c.start.ensures)

pub returns-else-place-eq0 : goal.returns-else-place-eq0
returns-else-place-eq0 c expected at =
    let p = c.args.p.now in
    let f = c.args.flight.now in
    let plants : c.args.place - 1 < length p.plants = omega (arith, c.requires.place, c.if-place-eq0.false) in
    let starts : c.args.place - 1 < length f.start = omega (arith, c.requires.place, c.if-place-eq0.false, c.requires.fits.1.starts) in
    let plant = read_at _ p.plants (c.args.place - 1) c.index.result.now (ap (λ (t : Tables). t.plants) c.p.view_is) plants c.index.ensures in
    let point = read_at c.start.result.now f.start (c.args.place - 1) c.index-start-place.result c.start.ensures starts c.index-start-place.is in
    let line = later_is p f c.args.place c.index.result.now c.index-start-place.result expected c.if-place-eq0.false plant point at in
    subst (λ (l : List _). OnOk c.put_start.result (string_bytes c.put_start.new.out ≡ string_bytes c.args.out.now ++ l)) (sym line) c.put_start.ensures
