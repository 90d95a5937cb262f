-- A flight stands wherever a history of it leads to.
use Rattle.std.proofs.Common.{◌≡◌, ℕ, zero, suc, List, [], ◌∷◌, ◌++◌, length, map, refl, sym, ap, ◌∙◌, subst, append_assoc, append-nil, arith}
use Rattle.std.specs.Prelude.{slice_index_or}
use Rattle.std.proofs.lemmas.List.{length-map}
use Rattle.std.proofs.lemmas.Option.{slice_get_within}
use Rattle.sot_lists.specs.Places.{At}
use Rattle.sot_box.specs.Regions.{IsInRegion}
use Rattle.sot_lang.specs.declared.tables.NodeInfo.{NodeInfo}
use Rattle.sot_lang.specs.Tables.{Tables}
use Rattle.sot_lang.specs.TableRules.{MeetsTableRules}
use Rattle.sot_tube.specs.Admitted.{Admitted}
use Rattle.sot_tube.specs.Certified.{IsWellCertified}
use Rattle.sot_tube.proofs.Certificate.{certified_well}
use Rattle.sot_world.specs.Configurations.{Configuration, IsOpening, IsSafer}
use Rattle.sot_world.specs.HistoryEntry.{Logged}
use Rattle.sot_world.specs.Opens.{StartInside}
use Rattle.sot_world.specs.State.{IsKept}
use Rattle.sot_world.proofs.Opening.{opening_holds}
use Rattle.sot_flight.specs.Plans.{Plan}
use Rattle.sot_flight.specs.Fits.{FitsFlight}
use Rattle.sot_board.specs.Flown.{Position, Leads, IsStart, FlownSoFar}
use Rattle.sot_board.specs.Standing.{Standing, IsStanding}
use Rattle.sot_law_flights.specs.Completion.{HistoriesCanBeCompleted}
use Rattle.sot_law_flights.proofs.Completing.{stands_after, flights_can_be_completed}

opens_safer : (p : Tables) (f : Plan) (C : Configuration) → IsOpening p f.start C → StartInside p f.start (length p.modules) → IsSafer p C
opens_safer p f C opening inside m a at =
    subst (λ points. IsInRegion a.safer.boxes (slice_index_or points a.plant [])) (sym opening.points) (inside m a (slice_get_within p.modules m a at) at)

none_fired : (nodes : List NodeInfo) (n : ℕ) → slice_index_or (map (λ x. let k : ℕ = 0 in k) nodes) n 0 ≡ 0
none_fired [] n = refl
none_fired (x ∷ nodes) zero = refl
none_fired (x ∷ nodes) (suc n) = none_fired nodes n

-- the flight with this history, which leads to this position
abbrev standing_of : Admitted → Plan → List Logged → Position → Standing
standing_of a f entries P = record { accepted = a; plan = f; entries = entries; position = P }

module _ (a : Admitted) (guests : ℕ) (f : Plan) (rules : MeetsTableRules a.program) (certified : IsWellCertified a.program a.cert.jitter a.cert)
    (fits : FitsFlight a.program guests f) (inside : StartInside a.program f.start (length a.program.modules)) where
  kept_at_start : (P : Position) → IsStart a.program f P → IsKept a P.at
  kept_at_start P start = record {
    rules = rules;
    certified = certified;
    holds =
        opening_holds a.program a.cert.jitter rules.typed (certified_well a.program a.cert.jitter a.cert rules.typed certified) f.start P.at start.opening
        (opens_safer a.program f P.at start.opening inside);
    time = omega (arith, start.opening.time);
  }

  stands_at_start : (P : Position) → IsStart a.program f P → IsStanding (standing_of a f [] P)
  stands_at_start P start = record {
    guests = guests;
    fits = fits;
    kept = kept_at_start P start;
    flown = (P, start, refl);
    in_time = omega (arith, start.opening.time);
    ahead = λ i x at. omega (arith, start.opening.time);
    inputs = λ i x at. fits.inputs i x (subst (λ l. At l i x) start.inputs at);
    ordered = λ i x y at_x at_y. fits.ordered i x y (subst (λ l. At l i x) start.inputs at_x) (subst (λ l. At l (suc i) y) start.inputs at_y);
    fired_each = ap length start.fired ∙ length-map a.program.nodes (λ x. let k : ℕ = 0 in k);
    fired = λ n lt. ap (λ l. slice_index_or l n 0) start.fired ∙ none_fired a.program.nodes n;
  }

  stands_further : (entries : List Logged) (P : Position) → IsStanding (standing_of a f entries P) → (more : List Logged) (Q : Position)
      → Leads a.program a.cert.jitter f P more Q → IsStanding (standing_of a f (entries ++ more) Q)
  stands_further entries P is [] Q led =
      subst (λ es. IsStanding (standing_of a f es Q)) (sym (append-nil entries)) (subst (λ S. IsStanding (standing_of a f entries S)) led is)
  stands_further entries P is (e ∷ more) Q (R, flies, led) =
      subst (λ es. IsStanding (standing_of a f es Q)) (append_assoc entries (e ∷ []) more)
      (stands_further (entries ++ e ∷ []) R (stands_after (standing_of a f entries P) is e R flies) more Q led)

  pub stands_so_far : (entries : List Logged) (Q : Position) → FlownSoFar a.program a.cert.jitter f entries Q → IsStanding (standing_of a f entries Q)
  stands_so_far entries Q (P, start, led) = stands_further [] P (stands_at_start P start) entries Q led

pub histories_can_be_completed : HistoriesCanBeCompleted
histories_can_be_completed a guests f entries P rules certified fits inside flown =
    flights_can_be_completed (standing_of a f entries P) (stands_so_far a guests f rules certified fits inside entries P flown)
