-- Histories are runs, event by event.
use Rattle.std.proofs.Common.{ℕ, ℤ, List, [], ◌∷◌, ◌++◌, length, Some, refl, sym, ap, subst}
use Rattle.std.specs.Prelude.{slice_index_or}
use Rattle.std.proofs.lemmas.Option.{slice_get_within}
use Rattle.sot_lists.specs.Places.{At}
use Rattle.sot_box.specs.Regions.{IsInRegion}
use Rattle.sot_lang.specs.Tables.{Tables}
use Rattle.sot_world.specs.Configurations.{Configuration, IsOpening, IsSafer}
use Rattle.sot_world.specs.Steps.{Event}
use Rattle.sot_world.specs.Runs.{Run}
use Rattle.sot_world.specs.HistoryEntry.{Logged}
use Rattle.sot_world.specs.Headline.{EveryRunIsSafe, IsSafeNow}
use Rattle.sot_world.specs.Opens.{StartInside}
use Rattle.sot_flight.specs.Plans.{Plan}
use Rattle.sot_board.specs.Flown.{Position, Leads, FlownSoFar}
use Rattle.sot_law_flights.specs.Laws.{TellOf, IsRunOf}

module _ (p : Tables) (jitter : ℕ) (f : Plan) where
  leads_run : (P : Position) (entries : List Logged) (Q : Position) → Leads p jitter f P entries Q
      → (events : List Event) × (Ds : List Configuration) × Run p jitter P.at events Ds × TellOf p P.at events Ds entries × At (P.at ∷ Ds) (length entries) Q.at
  leads_run P [] Q led = ([], [], tt, tt, ap (λ (x : Position). Some x.at) led)
  leads_run P (x ∷ entries) Q (R, flies, led) =
      let (events, Ds, run, told, last) = leads_run R entries Q led in
      (flies.event ∷ events, R.at ∷ Ds, (flies.step, run), ((flies.recorded, flies.records, flies.tells), told), last)

  pub flown_run : (entries : List Logged) (Q : Position) → FlownSoFar p jitter f entries Q → IsRunOf p jitter f.start entries Q.at
  flown_run entries Q (P, start, led) =
      let (events, Ds, run, told, last) = leads_run P entries Q led in
      record { C = P.at; events = events; Ds = Ds; opening = start.opening; run = run; told = told; last = last }

  leads_beginning : (P : Position) (xs ys : List Logged) (Q : Position) → Leads p jitter f P (xs ++ ys) Q → (R : Position) × Leads p jitter f P xs R
  leads_beginning P [] ys Q led = (P, refl)
  leads_beginning P (x ∷ xs) ys Q (S, flies, led) =
      let (R, begun) = leads_beginning S xs ys Q led in
      (R, (S, flies, begun))

  pub flown_beginning : (xs ys : List Logged) (Q : Position) → FlownSoFar p jitter f (xs ++ ys) Q → (R : Position) × FlownSoFar p jitter f xs R
  flown_beginning xs ys Q (P, start, led) =
      let (R, begun) = leads_beginning P xs ys Q led in
      (R, (P, start, begun))

  starts_safer : (C : Configuration) → IsOpening p f.start C → StartInside p f.start (length p.modules) → IsSafer p C
  starts_safer C opening inside =
      λ m a at. subst (λ (points : List (List ℤ)). IsInRegion a.safer.boxes (slice_index_or points a.plant [])) (sym opening.points)
      (inside m a (slice_get_within p.modules m a at) at)

  pub flown_safe : (entries : List Logged) (Q : Position) → EveryRunIsSafe p jitter → StartInside p f.start (length p.modules) → FlownSoFar p jitter f entries Q
      → IsSafeNow p jitter Q.at
  flown_safe entries Q safe inside flown =
      let r = flown_run entries Q flown in
      safe f.start r.C r.events r.Ds r.opening (starts_safer r.C r.opening inside) r.run (length entries) Q.at r.last
