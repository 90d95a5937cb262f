-- A flight is gone on with until its end.
use Rattle.std.proofs.Common.{◌≡◌, ℕ, zero, suc, ◌+◌, ◌-◌, ◌≤◌, ⊎_elim, List, [], ◌∷◌, ◌++◌, length, refl, sym, ap, ◌∙◌, subst, arith}
use Rattle.std.specs.Prelude.{slice_index_or}
use Rattle.sot_lists.specs.Places.{At}
use Rattle.sot_lang.specs.Tables.{Tables}
use Rattle.sot_world.specs.HistoryEntry.{Logged}
use Rattle.sot_world.specs.State.{IsKept}
use Rattle.sot_world.proofs.Stepping.{step_kept, are_points}
use Rattle.sot_flight.specs.Plans.{Plan}
use Rattle.sot_board.specs.Flown.{Position, Flies, Leads, IsEnd}
use Rattle.sot_board.specs.Room.{events_to_come}
use Rattle.sot_board.specs.Standing.{Standing, IsStanding}
use Rattle.sot_board.proofs.Entries.{flown_more}
use Rattle.sot_board.proofs.Going.{still_at, still_ahead, still_in_time, still_ordered, still_counted, still_each, Lessens, lessens}
use Rattle.sot_law_flights.specs.Completion.{GuestsDraftNothing, FlightsCanBeCompleted}
use Rattle.sot_law_flights.proofs.GoingOn.{goes_on}

none_silent : (f : Plan) → GuestsDraftNothing f []
none_silent f i time n guest draft enabled at crew = cc

silent_more : (f : Plan) (entry : Logged) (more : List Logged) → GuestsDraftNothing f (entry ∷ []) → GuestsDraftNothing f more
    → GuestsDraftNothing f (entry ∷ more)
silent_more f entry more here later zero time n guest draft enabled at crew = here 0 time n guest draft enabled at crew
silent_more f entry more here later (suc i) time n guest draft enabled at crew = later i time n guest draft enabled at crew

leads_on : (p : Tables) (j : ℕ) (f : Plan) (P : Position) (es more : List Logged) (Q R : Position) → Leads p j f P es Q → Leads p j f Q more R
    → Leads p j f P (es ++ more) R
leads_on p j f P [] more Q R led further = subst (λ S. Leads p j f S more R) (sym led) further
leads_on p j f P (e ∷ es) more Q R led further = (led.0, led.1, leads_on p j f led.0 es more Q R led.2 further)

-- where a flight stands with an entry more
abbrev after : Standing → Logged → Position → Standing
after b entry Q = record { accepted = b.accepted; plan = b.plan; entries = b.entries ++ entry ∷ []; position = Q }

module _ (b : Standing) (is : IsStanding b) (entry : Logged) (Q : Position) (flies : Flies b.accepted.program b.accepted.cert.jitter b.plan b.position entry Q)
  where
    in_time_after : Q.at.time ≤ b.plan.horizon
    in_time_after = still_in_time b.accepted.program b.accepted.cert.jitter b.plan b.position flies.event Q.at flies.stated flies.step is.in_time

    kept_after : IsKept b.accepted Q.at
    kept_after = step_kept b.accepted b.position.at is.kept Q.at flies.event flies.step (omega (arith, in_time_after, is.fits.horizon))

    pub stands_after : IsStanding (after b entry Q)
    stands_after = record {
      guests = is.guests;
      fits = is.fits;
      kept = kept_after;
      flown = flown_more b.accepted.program b.accepted.cert.jitter b.plan b.entries b.position entry Q is.flown flies;
      in_time = in_time_after;
      ahead =
          λ i x at. still_ahead b.accepted.program b.accepted.cert.jitter b.plan b.position flies.event Q.at flies.stated flies.step is.ahead i x
          (subst (λ l. At l i x) flies.inputs at);
      inputs =
          λ i x at. (let k = still_at b.accepted.program b.plan b.position flies.event flies.stated i x (subst (λ l. At l i x) flies.inputs at) in
          is.inputs k.0 x k.1);
      ordered =
          λ i x y at_x at_y. still_ordered b.accepted.program b.accepted.cert.jitter b.plan b.position flies.event Q.at flies.stated flies.step is.ordered i x y
          (subst (λ l. At l i x) flies.inputs at_x) (subst (λ l. At l (suc i) y) flies.inputs at_y);
      fired_each = ap length flies.fired ∙ still_each flies.event b.position.fired ∙ is.fired_each;
      fired =
          λ i lt. ap (λ l. slice_index_or l i 0) flies.fired ∙ still_counted b.accepted.program b.position flies.event Q.at flies.recorded entry b.entries i
          flies.tells (omega (arith, lt, is.fired_each)) (is.fired i lt);
    }

    pub fewer_after : (k : ℕ) → b.position.at.time + k ≡ b.plan.horizon → Lessens b.accepted.program b.plan.horizon b.position k Q entry
    fewer_after k ends =
        lessens b.accepted.program b.accepted.cert.jitter b.plan b.position Q flies.recorded entry k ends is.kept.holds.sizes
        (are_points b.accepted Q.at kept_after) flies.event flies.stated flies.step flies.tells flies.inputs

-- some entries lead to the end
abbrev IsEnded : Standing → List Logged → Type 0
IsEnded b more =
    (Q : Position) × Leads b.accepted.program b.accepted.cert.jitter b.plan b.position more Q × IsEnd b.accepted.program b.plan Q
    × GuestsDraftNothing b.plan more

-- an entry, and then those that lead to the end
ends_behind :
    (b : Standing) (entry : Logged) (Q : Position) → Flies b.accepted.program b.accepted.cert.jitter b.plan b.position entry Q
    → GuestsDraftNothing b.plan (entry ∷ []) → (more : List Logged) × IsEnded (after b entry Q) more
    → (more : List Logged) × IsEnded b more
ends_behind b entry Q flies silent (more, (S, led, ended, later)) = (entry ∷ more, (S, (Q, flies, led), ended, silent_more b.plan entry more silent later))

ends_within : (n : ℕ) (b : Standing) → IsStanding b → (k : ℕ) → b.position.at.time + k ≡ b.plan.horizon → events_to_come b.accepted.program k b.position ≤ n
    → (more : List Logged) × IsEnded b more
ends_within zero b is k ends few =
    ⊎_elim
    (λ ended. ([], (b.position, refl, ended, none_silent b.plan)))
    (λ (entry, Q, flies, silent). (let less = fewer_after b is entry Q flies k ends in absurd (omega (arith, few, less.2))))
    (goes_on b is)
ends_within (suc n) b is k ends few =
    ⊎_elim
    (λ ended. ([], (b.position, refl, ended, none_silent b.plan)))
    (λ (entry, Q, flies, silent).
    let less = fewer_after b is entry Q flies k ends in
    ends_behind b entry Q flies silent (ends_within n (after b entry Q) (stands_after b is entry Q flies) less.0 less.1 (omega (arith, few, less.2))))
    (goes_on b is)

pub flights_can_be_completed : FlightsCanBeCompleted
flights_can_be_completed b is =
    let k = b.plan.horizon - b.position.at.time in
    let ends : b.position.at.time + k ≡ b.plan.horizon = omega (arith, is.in_time) in
    let found = ends_within (events_to_come b.accepted.program k b.position) b is k ends (omega arith) in
    let (Q, led, ended, silent) = found.1 in
    let (P, start, before) = is.flown in (
      found.0,
      record {
        Q = Q;
        leads = led;
        ended = ended;
        whole = (Q, (P, start, leads_on b.accepted.program b.accepted.cert.jitter b.plan P b.entries found.0 b.position Q before led), ended);
        silent = silent;
      },
    )
