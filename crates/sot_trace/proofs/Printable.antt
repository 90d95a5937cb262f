-- A flown history can be printed.
use Rattle.std.proofs.Common.{◌≡◌, ℕ, zero, suc, ◌+◌, ℤ, List, [], ◌∷◌, ◌++◌, length, Ok, Err, refl, sym, ap, ◌∙◌, subst, arith}
use Rattle.std.specs.Prelude.{slice_index_or}
use Rattle.std.proofs.lemmas.List.{length-append, length-map}
use Rattle.std.proofs.lemmas.Option.{slice_get_within}
use Rattle.sot_lists.specs.Places.{At}
use Rattle.sot_box.proofs.Ranges.{within_length}
use Rattle.sot_lang.specs.declared.term.Term.{Term}
use Rattle.sot_lang.specs.declared.tables.PlantInfo.{PlantInfo}
use Rattle.sot_lang.specs.Tables.{Tables}
use Rattle.sot_lang.specs.TableRules.{MeetsTableRules}
use Rattle.sot_lang.specs.Ticks.{values, next_state, joined}
use Rattle.sot_lang.specs.Values.{Outcome, one_more, value_of}
use Rattle.sot_world.specs.Steps.{Event, Input, Code, Guest, Decide, Tick, Step}
use Rattle.sot_world.specs.Events.{noise_count}
use Rattle.sot_world.specs.HistoryEntry.{Logged}
use Rattle.sot_world.specs.Outcomes.{Recorded}
use Rattle.sot_flight.specs.Plans.{Plan}
use Rattle.sot_board.specs.Flown.{Position, Tells, Leads, FlownSoFar}
use Rattle.sot_board.specs.Counts.{state_count}
use Rattle.sot_trace.specs.Fitting.{FitsEntry, FitsHistory}

-- so many values as expressions
one_more_length : (r : Outcome ℤ) (rest : Outcome (List ℤ)) (xs : List ℤ) → one_more r rest ≡ Ok xs → (z : ℤ) × (ys : List ℤ) × (rest ≡ Ok ys) × (xs ≡ z ∷ ys)
one_more_length (Ok z) (Ok ys) xs e = (z, ys, refl, cc)
one_more_length (Ok z) (Err t) xs e = absurd cc
one_more_length (Err t) rest xs e = absurd cc

values_length : (ts : List Term) (env xs : List ℤ) → values ts env ≡ Ok xs → length xs ≡ length ts
values_length [] env xs e = (let same : xs ≡ [] = cc in ap length same)
values_length (t ∷ ts) env xs e =
    let (z, ys, rest, is) = one_more_length (value_of t env) (values ts env) xs e in
    ap length is ∙ ap suc (values_length ts env ys rest)

-- the numbers of points with these widths
joined_count :
    (count : List PlantInfo → ℕ) (width : PlantInfo → ℕ) → count [] ≡ 0 → ((k : PlantInfo) (ks : List PlantInfo) → count (k ∷ ks) ≡ width k + count ks)
    → (plants : List PlantInfo) (points : List (List ℤ)) → length points ≡ length plants
    → ((k : ℕ) (plant : PlantInfo) → At plants k plant → length (slice_index_or points k []) ≡ width plant) → length (joined points) ≡ count plants
joined_count count width none more [] [] same each = sym none
joined_count count width none more [] (s ∷ points) same each = cc
joined_count count width none more (x ∷ plants) [] same each = cc
joined_count count width none more (x ∷ plants) (s ∷ points) same each =
    let rest = joined_count count width none more plants points (omega (arith, same)) (λ k. each (suc k)) in
    omega (arith, rest, each 0 x refl, more x plants, length-append s (joined points))

module _ (p : Tables) (rules : MeetsTableRules p) where
  moved_width : (k : ℕ) (plant : PlantInfo) (s c v w next : List ℤ) → At p.plants k plant → next_state plant s c v w ≡ Ok next
      → length next ≡ length plant.states.items
  unfolding next_state
  moved_width k plant s c v w next at e = values_length plant.next.items (s ++ c ++ v ++ w) next e ∙ (rules.plants k plant at).one_next

  pub told_fits : (j : ℕ) (P Q : Position) (e : Event) (r : Recorded) (entry : Logged) → Step p j P.at e Q.at → Tells P.at e r Q.at entry → FitsEntry p entry
  told_fits j P Q (Input topic value) r entry step is = subst (FitsEntry p) (sym is) (step.info, step.is, step.size)
  told_fits j P Q (Code n) r entry step (draft, enabled, was, is) = subst (FitsEntry p) (sym is) (slice_get_within p.nodes n step.node step.is)
  told_fits j P Q (Guest n d) r entry step (draft, enabled, was, is) = subst (FitsEntry p) (sym is) (slice_get_within p.nodes n step.node step.is)
  told_fits j P Q (Decide m) r entry step (mode, was, is) = subst (FitsEntry p) (sym is) (slice_get_within p.modules m step.module_info step.is)
  told_fits j P Q (Tick noise) r entry step is = subst (FitsEntry p) (sym is) (
    joined_count noise_count (λ x. length x.noise.items) refl (λ k ks. refl) p.plants noise step.each
        (λ k plant at. within_length _ _ (step.bounded k plant at) ∙ length-map plant.noise.items (λ d. record { lo = d.lo; hi = d.hi })),
    joined_count state_count (λ x. length x.states.items) refl (λ k ks. refl) p.plants Q.at.points step.sizes.points
        (λ k plant at. moved_width k plant _ _ _ _ _ at (step.moves k plant at)),
  )

  led_fits : (j : ℕ) (f : Plan) (P : Position) (es : List Logged) (Q : Position) → Leads p j f P es Q → FitsHistory p es
  led_fits j f P [] Q led i e at = absurd cc
  led_fits j f P (x ∷ es) Q (R, flies, led) zero e at =
      subst (FitsEntry p) (let same : x ≡ e = cc in same) (told_fits j P R flies.event flies.recorded x flies.step flies.tells)
  led_fits j f P (x ∷ es) Q (R, flies, led) (suc i) e at = led_fits j f R es Q led i e at

  pub flown_fits : (j : ℕ) (f : Plan) (es : List Logged) (Q : Position) → FlownSoFar p j f es Q → FitsHistory p es
  flown_fits j f es Q (P, start, led) = led_fits j f P es Q led
