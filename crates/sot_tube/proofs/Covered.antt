-- Boxes that are covered where the next one of a tube is.
use Rattle.std.proofs.Common.{◌≡◌, ℕ, zero, suc, ◌+◌, ◌-◌, ◌<◌, ℤ, ◌≤ℤ◌, List, [], ◌∷◌, Ok, length, refl, sym, ◌∙◌, subst, arith, below_more}
use Rattle.std.proofs.lemmas.Int.{ints}
use Rattle.sot_box.specs.Sides.{Side}
use Rattle.sot_lists.specs.Places.{At}
use Rattle.sot_box.specs.Boxes.{IsWithin}
use Rattle.sot_box.specs.BoxList.{BoxList}
use Rattle.sot_box.specs.Regions.{Covers}
use Rattle.sot_lang.specs.declared.tables.PlantInfo.{PlantInfo}
use Rattle.sot_lang.specs.Tables.{Tables}
use Rattle.sot_lang.specs.TableRules.{MeetsTableRules}
use Rattle.sot_iv.specs.PlantTicks.{MayTickBox, IsBoxAfterTick}
use Rattle.sot_lists.proofs.Places.{at_same}
use Rattle.sot_tube.specs.Tubes.{StaysInside}
use Rattle.sot_tube.proofs.Walks.{terms_long, one_left}

-- one side lies in another
abbrev pub LiesIn : Side → Side → Type 0
LiesIn r q = (q.lo ≤ℤ r.lo) × (r.hi ≤ℤ q.hi)

-- so do the first sides of a box in those of another
abbrev pub LieIn : List Side → List Side → ℕ → Type 0
LieIn b c i = (k : ℕ) → k < i → (r q : Side) → At b k r → At c k q → LiesIn r q

pub lie_more : (b c : List Side) (i : ℕ) (r q : Side) → LieIn b c i → At b i r → At c i q → LiesIn r q → LieIn b c (i + 1)
lie_more b c i r q sofar at_b at_c lie = below_more (λ k. (x y : Side) → At b k x → At c k y → LiesIn x y) i sofar
    (λ x y at_x at_y. subst (λ z. LiesIn z y) (at_same b i r x at_b at_x) (subst (λ z. LiesIn r z) (at_same c i q y at_c at_y) lie))

pub within_wider : (b c : List Side) (s : List ℤ) → length b ≡ length c → LieIn b c (length b) → IsWithin b s → IsWithin c s
within_wider [] [] s same lie w = w
within_wider [] (q ∷ qs) s same lie w = absurd (omega (arith, same))
within_wider (r ∷ rs) [] s same lie w = absurd (omega (arith, same))
within_wider (r ∷ rs) (q ∷ qs) [] same lie w = absurd w
within_wider (r ∷ rs) (q ∷ qs) (x ∷ xs) same lie w =
    let here = lie zero (omega arith) r q refl refl in (
      omega (arith, ints, here.0, w.0),
      omega (arith, ints, here.1, w.1),
      within_wider rs qs xs (omega (arith, same)) (λ k below. lie (suc k) (omega (arith, below))) w.2,
    )

stays_covers : (plant : PlantInfo) (held seen : List Side) (region : List (List Side)) (b : List Side) (k : ℕ) → StaysInside plant held seen region b k
    → Covers region b
stays_covers plant held seen region b zero h = h
stays_covers plant held seen region b (suc k) h = h.0

-- from this box on the tube stays inside only where it does so from its first box
pub record ShownSoFar (p : Tables) (k : ℕ) (region : BoxList) (first held seen : List Side) (ticks : ℕ) (area : List Side) (n : ℕ) : Type 0 where
  pub step : MayTickBox p k area held seen
  pub width : length area ≡ region.width
  pub stays : (info : PlantInfo) → At p.plants k info → StaysInside info held seen region.boxes area (ticks - n)
      → StaysInside info held seen region.boxes first ticks

module _ (p : Tables) (k : ℕ) (region : BoxList) (first held seen : List Side) (ticks : ℕ) where
  pub shown_start : MayTickBox p k first held seen → length first ≡ region.width → ShownSoFar p k region first held seen ticks first 0
  shown_start step width = record {
    step = step;
    width = width;
    stays = λ info at s. let e : ticks - 0 ≡ ticks = omega arith in subst (StaysInside info held seen region.boxes first) e s;
  }

  pub shown_next : (area next : List Side) (n : ℕ) → ShownSoFar p k region first held seen ticks area n → MeetsTableRules p → n < ticks
      → (Covers region.boxes next → Covers region.boxes area) → IsBoxAfterTick p k area held seen (Ok next)
      → ShownSoFar p k region first held seen ticks next (suc n)
  shown_next area next n sofar rules lt covers steps =
      let long : length next ≡ length sofar.step.plant.states.items = terms_long sofar.step.plant.next.items _ next (steps sofar.step.plant sofar.step.is)
      ∙ (rules.plants k sofar.step.plant sofar.step.is).one_next in
      record {
        step = record { plant = sofar.step.plant; is = sofar.step.is; states = long; inputs = sofar.step.inputs; seen_are = sofar.step.seen_are };
        width = long ∙ sym sofar.step.states ∙ sofar.width;
        stays = λ info at s. sofar.stays info at
            (one_left (StaysInside info held seen region.boxes area) ticks n lt
            (covers (stays_covers info held seen region.boxes next (ticks - suc n) s), (next, steps info at, s)));
      }

  pub shown : (area : List Side) → ShownSoFar p k region first held seen ticks area ticks → Covers region.boxes area → (info : PlantInfo) → At p.plants k info
      → StaysInside info held seen region.boxes first ticks
  shown area sofar covers info at =
      sofar.stays info at (let e : 0 ≡ ticks - ticks = omega arith in subst (StaysInside info held seen region.boxes area) e covers)
