-- In the flights of what is safe no tick leaves a plant outside its safe region.
use Rattle.std.proofs.Common.{◌≡◌, ◌∙◌, ℕ, suc, ℤ, Bool, false, List, [], ◌∷◌, ◌++◌, length, refl, sym, ap, ap₂, subst, arith, append_assoc, inl, inr}
use Rattle.std.specs.Prelude.{sum_by, slice_index_or, if◌then◌else◌}
use Rattle.std.specs.List.{list_any}
use Rattle.std.proofs.lemmas.Bool.{or_from, not_from_true}
use Rattle.std.proofs.lemmas.List.{take_at, drop_at}
use Rattle.std.proofs.lemmas.List.Sums.{sum_by-cons}
use Rattle.sot_lists.specs.Places.{At}
use Rattle.sot_box.specs.Sides.{Side}
use Rattle.sot_box.specs.Regions.{IsInRegion}
use Rattle.sot_box.proofs.Ranges.{within_length}
use Rattle.sot_lang.specs.declared.tables.PlantInfo.{PlantInfo}
use Rattle.sot_lang.specs.Tables.{Tables}
use Rattle.sot_lang.specs.OwnerNames.{width_of}
use Rattle.sot_lang.specs.TableRules.{MeetsTableRules}
use Rattle.sot_lang.specs.Ticks.{joined}
use Rattle.sot_lang.proofs.Owners.{width_at}
use Rattle.sot_world.specs.Configurations.{Configuration, IsSized, point_of}
use Rattle.sot_world.specs.Steps.{Event, Input, Code, Guest, Decide, Tick, Step}
use Rattle.sot_world.specs.Outcomes.{Recorded}
use Rattle.sot_world.specs.HistoryEntry.{Logged, InputAt, FireAt, DecideAt, TickAt}
use Rattle.sot_world.specs.Headline.{EveryRunIsSafe, IsSafeNow}
use Rattle.sot_world.specs.Opens.{StartInside}
use Rattle.sot_flight.specs.Plans.{Plan}
use Rattle.sot_board.specs.Flown.{Position, Tells, FlownSoFar, FlownBy}
use Rattle.sot_law_flights.proofs.Told.{led_last, flown_states}
use Rattle.sot_law_flights.proofs.Runs.{flown_beginning, flown_safe}
use Rattle.sot_summary.specs.Outside.{is_in_region, points_in, is_outside}
use Rattle.sot_summary.specs.Counted.{outside_in}
use Rattle.sot_summary.proofs.RegionTests.{region_test}

-- a point of a region is as wide as its boxes
region_width : (bs : List (List Side)) (n : ℕ) (s : List ℤ) → ((i : ℕ) (b : List Side) → At bs i b → length b ≡ n) → IsInRegion bs s → length s ≡ n
region_width [] n s each r = absurd r
region_width (b ∷ bs) n s each (inl w) = within_length b s w ∙ each 0 b refl
region_width (b ∷ bs) n s each (inr r) = region_width bs n s (λ i c at. each (suc i) c at) r

-- points that were put one after another are cut into the same points
pub points_back : (plants : List PlantInfo) (points : List (List ℤ)) → length points ≡ length plants
    → ((k : ℕ) (plant : PlantInfo) → At plants k plant → length (slice_index_or points k []) ≡ length plant.states.items)
    → points_in plants (joined points) ≡ points
points_back [] [] same each = refl
points_back [] (s ∷ points) same each = absurd (omega (arith, same))
points_back (k ∷ plants) [] same each = absurd (omega (arith, same))
points_back (k ∷ plants) (s ∷ points) same each =
    let n = length k.states.items in
    let front = take_at s (joined points) n (each 0 k refl) in
    let behind = drop_at s (joined points) n (each 0 k refl) in
    ap₂ (λ (x : List ℤ) (xs : List (List ℤ)). x ∷ xs) front
    (ap (points_in plants) behind ∙ points_back plants points (omega (arith, same)) (λ i plant at. each (suc i) plant at))

none_any : {A : Type 0} (f : A → Bool) (xs : List A) → ((i : ℕ) (x : A) → At xs i x → f x ≡ false) → list_any f xs ≡ false
none_any f [] each = refl
none_any f (x ∷ xs) each = or_from (f x) (list_any f xs) (each 0 x refl) (none_any f xs (λ i y at. each (suc i) y at))

module _ (p : Tables) (rules : MeetsTableRules p) where
  -- in a safe configuration each plant's point is as wide as the plant
  safe_width : (jitter : ℕ) (C : Configuration) → IsSafeNow p jitter C → (k : ℕ) (plant : PlantInfo) → At p.plants k plant
      → length (point_of C k) ≡ length plant.states.items
  safe_width jitter C safe k plant at =
      let (m, info, is, names) = rules.typed.named k plant at in
      let region = (rules.modules m info is).safe in
      let inside = region_width info.safe.boxes info.safe.width (point_of C info.plant) (λ i b at_b. (region.each i b at_b).0) (safe.modules m info is) in
      ap (λ n. length (point_of C n)) (sym names) ∙ inside ∙ region.width ∙ ap (λ n. width_of p.plants n) names ∙ width_at p.plants k plant at

  safe_inside : (jitter : ℕ) (C : Configuration) → IsSized p C → IsSafeNow p jitter C → is_outside p (joined C.points) ≡ false
  safe_inside jitter C sizes safe =
      let points = points_back p.plants C.points sizes.points (safe_width jitter C safe) in
      none_any _ p.modules (λ m info at.
      not_from_true (is_in_region info.safe.boxes (slice_index_or (points_in p.plants (joined C.points)) info.plant []))
      ((region_test info.safe.boxes _).1 (subst (λ (xs : List (List ℤ)). IsInRegion info.safe.boxes (slice_index_or xs info.plant [])) (sym points)
      (safe.modules m info at))))

  -- a tick leaves a configuration of this program's sizes
  tick_sizes : (jitter : ℕ) (P Q : Position) (e : Event) (r : Recorded) (time : ℕ) (noise states : List ℤ) → Step p jitter P.at e Q.at
      → Tells P.at e r Q.at (TickAt time noise states)
      → IsSized p Q.at
  tick_sizes jitter P Q (Input topic value) r time noise states step is = absurd cc
  tick_sizes jitter P Q (Code n) r time noise states step (draft, enabled, was, is) = absurd cc
  tick_sizes jitter P Q (Guest n d) r time noise states step (draft, enabled, was, is) = absurd cc
  tick_sizes jitter P Q (Decide m) r time noise states step (mode, was, is) = absurd cc
  tick_sizes jitter P Q (Tick given) r time noise states step is = step.sizes

  module _ (jitter : ℕ) (f : Plan) (safe : EveryRunIsSafe p jitter) (inside : StartInside p f.start (length p.modules)) where
    tick_inside : (xs : List Logged) (time : ℕ) (noise states : List ℤ) (Q : Position) → FlownSoFar p jitter f (xs ++ TickAt time noise states ∷ []) Q
        → is_outside p states ≡ false
    tick_inside xs time noise states Q (P, start, led) =
        let flown : FlownSoFar p jitter f (xs ++ TickAt time noise states ∷ []) Q = (P, start, led) in
        let (R, front, last) = led_last p jitter f P xs (TickAt time noise states) Q led in
        let sizes = tick_sizes jitter R Q last.event last.recorded time noise states last.step last.tells in
        ap (is_outside p) (flown_states p jitter f xs time noise states Q flown)
        ∙ safe_inside jitter Q.at sizes (flown_safe p jitter f (xs ++ TickAt time noise states ∷ []) Q safe inside flown)

    entry_inside : (xs : List Logged) (e : Logged) (Q : Position) → FlownSoFar p jitter f (xs ++ e ∷ []) Q → outside_in p e ≡ 0
    entry_inside xs (InputAt time topic value) Q flown = refl
    entry_inside xs (FireAt time node draft enabled) Q flown = refl
    entry_inside xs (DecideAt time decider mode) Q flown = refl
    entry_inside xs (TickAt time noise states) Q flown = ap (λ (b : Bool). if b then 1 else 0) (tick_inside xs time noise states Q flown)

    rest_inside : (xs ys : List Logged) (Q : Position) → FlownSoFar p jitter f (xs ++ ys) Q → sum_by (outside_in p) ys ≡ 0
    rest_inside xs [] Q flown = refl
    rest_inside xs (e ∷ ys) Q flown =
        let here = subst (λ (es : List Logged). FlownSoFar p jitter f es Q) (sym (append_assoc xs (e ∷ []) ys)) flown in
        let begun = flown_beginning p jitter f (xs ++ e ∷ []) ys Q here in
        let one = entry_inside xs e begun.0 begun.1 in
        let more = rest_inside (xs ++ e ∷ []) ys Q here in
        omega (arith, sum_by-cons (outside_in p) e ys, one, more)

    pub none_outside : (es : List Logged) → FlownBy p jitter f es → sum_by (outside_in p) es ≡ 0
    none_outside es (Q, flown, end) = rest_inside [] es Q flown
