-- Histories of flights are runs whose firings and decisions their entries tell.
use Rattle.std.proofs.Common.{◌≡◌, ℕ, ◌+◌, Bool, true, false, ⊎_elim, ℤ, Option, List, [], ◌∷◌, length, take, refl, sym, ap, ◌∙◌, subst, Some, arith}
use Rattle.std.specs.Prelude.{◌==◌}
use Rattle.std.proofs.lemmas.Bool.{cases_eq, eq-eqb, ne_eqb}
use Rattle.sot_lists.specs.Places.{At}
use Rattle.sot_lang.specs.Tables.{Tables}
use Rattle.sot_calendar.specs.Due.{IsDueCount}
use Rattle.sot_code.specs.Recorded.{in_slots}
use Rattle.sot_world.specs.declared.mode.Mode.{Mode}
use Rattle.sot_world.specs.Configurations.{Configuration, is_left, is_left_dm}
use Rattle.sot_world.specs.Steps.{Event, Input, Code, Guest, Decide, Tick}
use Rattle.sot_world.specs.Outcomes.{Recorded}
use Rattle.sot_world.specs.Runs.{Run}
use Rattle.sot_world.specs.HistoryEntry.{Logged, InputAt, FireAt, DecideAt, TickAt}
use Rattle.sot_flight.specs.Plans.{Plan}
use Rattle.sot_board.specs.Flown.{Position, Tells, Leads}
use Rattle.sot_board.specs.Versions.{drafts_of}
use Rattle.sot_law_runs.specs.Firings.{is_firing, is_decision, count_of, one_if}
use Rattle.sot_law_runs.proofs.Firings.{firings_are_due_times, one_more}
use Rattle.sot_law_flight_facts.specs.Firings.{decisions_told, FlightsFireWhatIsDue, WholeFlightsFireAllDue}

drafts_more : (n : ℕ) (x : Logged) (xs : List Logged) → length (drafts_of n (x ∷ xs)) ≡ length (drafts_of n (x ∷ [])) + length (drafts_of n xs)
drafts_more n (InputAt time topic value) xs = omega arith
drafts_more n (DecideAt time m mode) xs = omega arith
drafts_more n (TickAt time noise states) xs = omega arith
drafts_more n (FireAt time k draft enabled) xs = by_flag (n == k) refl
  where
    by_flag : (b : Bool) → (n == k) ≡ b → length (drafts_of n (FireAt time k draft enabled ∷ xs))
        ≡ length (drafts_of n (FireAt time k draft enabled ∷ [])) + length (drafts_of n xs)
    by_flag true e = rw e (omega arith)
    by_flag false e = rw e (omega arith)

decisions_more : (m : ℕ) (x : Logged) (xs : List Logged) → decisions_told m (x ∷ xs) ≡ decisions_told m (x ∷ []) + decisions_told m xs
decisions_more m (InputAt time topic value) xs = omega arith
decisions_more m (FireAt time n draft enabled) xs = omega arith
decisions_more m (TickAt time noise states) xs = omega arith
decisions_more m (DecideAt time k mode) xs = by_flag (k == m) refl
  where
    by_flag : (b : Bool) → (k == m) ≡ b → decisions_told m (DecideAt time k mode ∷ xs) ≡ decisions_told m (DecideAt time k mode ∷ []) + decisions_told m xs
    by_flag true e = rw e (omega arith)
    by_flag false e = rw e (omega arith)

swapped : (n k : ℕ) → (n == k) ≡ (k == n)
swapped n k = ⊎_elim (λ e. eq-eqb n k e ∙ sym (eq-eqb k n (sym e))) (λ ne. ne_eqb n k ne ∙ sym (ne_eqb k n (λ e. ne (sym e)))) (cases_eq n k)

-- an entry tells of one firing of the node that fired
one_draft : (n k time : ℕ) (draft : List (Option ℤ)) (enabled : Bool) → length (drafts_of n (FireAt time k draft enabled ∷ [])) ≡ one_if (k == n)
one_draft n k time draft enabled = by_flag (n == k) refl ∙ ap one_if (swapped n k)
  where
    by_flag : (b : Bool) → (n == k) ≡ b → length (drafts_of n (FireAt time k draft enabled ∷ [])) ≡ one_if (n == k)
    by_flag true e = rw e refl
    by_flag false e = rw e refl

one_decision : (m k time : ℕ) (mode : Mode) → decisions_told m (DecideAt time k mode ∷ []) ≡ one_if (k == m)
one_decision m k time mode = by_flag (k == m) refl
  where
    by_flag : (b : Bool) → (k == m) ≡ b → decisions_told m (DecideAt time k mode ∷ []) ≡ one_if (k == m)
    by_flag true e = rw e refl
    by_flag false e = rw e refl

told_firing : (n : ℕ) (C D : Configuration) (e : Event) (r : Recorded) (x : Logged) → Tells C e r D x → length (drafts_of n (x ∷ [])) ≡ one_if (is_firing n e)
told_firing n C D (Input topic value) r x is = ap (λ y. length (drafts_of n (y ∷ []))) is
told_firing n C D (Code k) r x (draft, enabled, was, is) = ap (λ y. length (drafts_of n (y ∷ []))) is ∙ one_draft n k C.time (in_slots draft) enabled
told_firing n C D (Guest k d) r x (draft, enabled, was, is) = ap (λ y. length (drafts_of n (y ∷ []))) is ∙ one_draft n k C.time (in_slots draft) enabled
told_firing n C D (Decide m) r x (mode, was, is) = ap (λ y. length (drafts_of n (y ∷ []))) is
told_firing n C D (Tick noise) r x is = ap (λ y. length (drafts_of n (y ∷ []))) is

told_decision : (m : ℕ) (C D : Configuration) (e : Event) (r : Recorded) (x : Logged) → Tells C e r D x → decisions_told m (x ∷ []) ≡ one_if (is_decision m e)
told_decision m C D (Input topic value) r x is = ap (λ y. decisions_told m (y ∷ [])) is
told_decision m C D (Code k) r x (draft, enabled, was, is) = ap (λ y. decisions_told m (y ∷ [])) is
told_decision m C D (Guest k d) r x (draft, enabled, was, is) = ap (λ y. decisions_told m (y ∷ [])) is
told_decision m C D (Decide k) r x (mode, was, is) = ap (λ y. decisions_told m (y ∷ [])) is ∙ one_decision m k C.time mode
told_decision m C D (Tick noise) r x is = ap (λ y. decisions_told m (y ∷ [])) is

-- the events of a history, which are a run, and as many of each kind as it tells
record HasEvents (p : Tables) (j : ℕ) (P : Position) (xs : List Logged) (Q : Position) : Type 0 where
  pub events : List Event
  pub Ds : List Configuration
  pub run : Run p j P.at events Ds
  pub last : At (P.at ∷ Ds) (length xs) Q.at
  pub firings : (n : ℕ) → length (drafts_of n xs) ≡ count_of (is_firing n) (take (length xs) events)
  pub decisions : (m : ℕ) → decisions_told m xs ≡ count_of (is_decision m) (take (length xs) events)

module _ (p : Tables) (j : ℕ) (f : Plan) where
  events_of : (P : Position) (xs : List Logged) (Q : Position) → Leads p j f P xs Q → HasEvents p j P xs Q
  events_of P [] Q led = record { events = []; Ds = []; run = tt; last = ap (λ (x : Position). Some x.at) led; firings = λ n. refl; decisions = λ m. refl }
  events_of P (x ∷ xs) Q (R, flies, led) =
      let rest = events_of R xs Q led in record {
        events = flies.event ∷ rest.events;
        Ds = R.at ∷ rest.Ds;
        run = (flies.step, rest.run);
        last = rest.last;
        firings =
            λ n. omega (
              arith,
              drafts_more n x xs,
              told_firing n P.at R.at flies.event flies.recorded x flies.tells,
              rest.firings n,
              one_more (is_firing n) flies.event (take (length xs) rest.events),
            );
        decisions =
            λ m. omega (
              arith,
              decisions_more m x xs,
              told_decision m P.at R.at flies.event flies.recorded x flies.tells,
              rest.decisions m,
              one_more (is_decision m) flies.event (take (length xs) rest.events),
            );
      }

pub so_far : FlightsFireWhatIsDue
so_far p j f xs Q (P, start, led) =
    let e = events_of p j f P xs Q led in
    let counted = firings_are_due_times p j f.start P.at e.events e.Ds (length xs) Q.at start.opening e.run e.last in (
      (λ n node at begins short. subst (λ c. IsDueCount node.period node.offset Q.at.time (c + one_if (is_left Q.at n))) (sym (e.firings n))
          (counted.0 n node at begins short)),
      (λ m a at begins short. subst (λ c. IsDueCount a.period a.offset Q.at.time (c + one_if (is_left_dm Q.at m))) (sym (e.decisions m))
          (counted.1 m a at begins short)),
    )

-- with nothing left at the horizon
at_horizon : (period offset t horizon count : ℕ) (left : Bool) → t ≡ horizon → left ≡ false → IsDueCount period offset t (count + one_if left)
    → IsDueCount period offset horizon count
at_horizon period offset t horizon count left time none h =
    let rest : count + one_if left ≡ count = (let e : count + 0 ≡ count = omega arith in ap (λ b. count + one_if b) none ∙ e) in
    subst (λ x. IsDueCount period offset x count) time (subst (IsDueCount period offset t) rest h)

pub whole : WholeFlightsFireAllDue
whole p j f xs (Q, flown, ended) =
    let counted = so_far p j f xs Q flown in (
      (λ n node at begins short. at_horizon node.period node.offset Q.at.time f.horizon _ (is_left Q.at n) ended.time (ended.nothing.nodes n node at)
          (counted.0 n node at begins short)),
      (λ m a at begins short. at_horizon a.period a.offset Q.at.time f.horizon _ (is_left_dm Q.at m) ended.time (ended.nothing.modules m a at)
          (counted.1 m a at begins short)),
    )
