-- How many ticks a flown history has.
use Rattle.std.proofs.Common.{◌≡◌, ◌∙◌, ℕ, ◌≤◌, List, [], ◌∷◌, refl, arith}
use Rattle.std.specs.Prelude.{sum_by}
use Rattle.std.proofs.lemmas.List.Sums.{sum_by-cons}
use Rattle.sot_lang.specs.Tables.{Tables}
use Rattle.sot_world.specs.HistoryEntry.{Logged, InputAt, FireAt, DecideAt, TickAt}
use Rattle.sot_flight.specs.Plans.{Plan}
use Rattle.sot_board.specs.Flown.{FlownBy}
use Rattle.sot_board.specs.Standing.{Standing, IsStanding}
use Rattle.sot_law_flights.specs.Told.{ticks_told}
use Rattle.sot_law_flights.proofs.Told.{flown_ticks, whole_ticks}
use Rattle.sot_trace.specs.Lines.{ticks_in}

ticks_same : (es : List Logged) → sum_by ticks_in es ≡ ticks_told es
ticks_same [] = refl
ticks_same (InputAt time topic value ∷ es) =
    (let one = sum_by-cons ticks_in (InputAt time topic value) es in let rest = ticks_same es in omega (arith, one, rest))
ticks_same (FireAt time node draft enabled ∷ es) =
    (let one = sum_by-cons ticks_in (FireAt time node draft enabled) es in let rest = ticks_same es in omega (arith, one, rest))
ticks_same (DecideAt time decider mode ∷ es) =
    (let one = sum_by-cons ticks_in (DecideAt time decider mode) es in let rest = ticks_same es in omega (arith, one, rest))
ticks_same (TickAt time noise states ∷ es) =
    (let one = sum_by-cons ticks_in (TickAt time noise states) es in let rest = ticks_same es in omega (arith, one, rest))

pub horizon_ticks : (p : Tables) (jitter : ℕ) (f : Plan) (es : List Logged) → FlownBy p jitter f es → sum_by ticks_in es ≡ f.horizon
horizon_ticks p jitter f es flown = ticks_same es ∙ whole_ticks p jitter f es flown

-- no more than the longest horizon
pub few_ticks : (b : Standing) → IsStanding b → sum_by ticks_in b.entries ≤ 100000
few_ticks b standing =
    let same = ticks_same b.entries in
    let time = flown_ticks b.accepted.program b.accepted.cert.jitter b.plan b.entries b.position standing.flown in
    omega (arith, same, time, standing.in_time, standing.fits.horizon)
