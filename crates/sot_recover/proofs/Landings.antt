-- The landings of a cell among the boxes of its tube.
use Rattle.std.proofs.Common.{◌≡◌, ℕ, zero, suc, ◌+◌, ◌-◌, ◌<◌, ◌≤◌, List, [], ◌∷◌, Ok, length, refl, sym, ap, ◌∙◌, subst, arith, drop}
use Rattle.std.specs.Prelude.{ℤ}
use Rattle.std.proofs.lemmas.Option.{same_Some, none-some, slice_get_within}
use Rattle.sot_lists.specs.Places.{At}
use Rattle.sot_lists.proofs.Places.{at_below}
use Rattle.sot_box.specs.Sides.{Side}
use Rattle.sot_box.specs.Boxes.{IsWithin}
use Rattle.sot_box.specs.Regions.{Covers}
use Rattle.sot_lang.specs.declared.cert.Cert.{Cert}
use Rattle.sot_lang.specs.Tables.{Tables}
use Rattle.sot_lang.specs.SafeRegions.{joined_boxes}
use Rattle.sot_iv.specs.BodyIntervals.{Intervals}
use Rattle.sot_tube.specs.Certified.{command_intervals}
use Rattle.sot_tube.proofs.VerdictExact.{drafts_same}
use Rattle.sot_tube.proofs.Leaving.{hulls_same}
use Rattle.sot_law_runs.specs.TubeBoxes.{IsBoxAfter}
use Rattle.sot_law_runs.proofs.TubeBoxes.{unique, boxes as boxes_of}
use Rattle.sot_lang.specs.declared.tables.PlantInfo.{PlantInfo}
use Rattle.sot_iv.specs.PlantIntervals.{IsNextBox}
use Rattle.sot_tube.specs.Tubes.{StaysInside}
use Rattle.sot_law_runs.specs.Holds.{Guarded}
use Rattle.sot_law_runs.specs.Ranks.{StaysSafer, IsLanding}
use Rattle.std.proofs.lemmas.Int.{ints}
use Rattle.std.proofs.lemmas.List.{nil_from_length}
use Rattle.sot_lang.specs.OwnerNames.{width_of}
use Rattle.sot_lang.specs.TableRules.{MeetsTableRules}
use Rattle.sot_lang.proofs.Owners.{width_at}
use Rattle.sot_tube.proofs.Walks.{terms_long}
use Rattle.sot_recover.specs.Meeting.{IsAround, IsAroundAll}
use Rattle.sot_recover.proofs.Sides.{at_dropped, dropped_at}
use Rattle.sot_recover.specs.Tubes.{AreTubeBoxes, IsTubeOf}
use Rattle.sot_recover.specs.Grounds.{IsHullOf, AreLandingsCovered}

-- a tube of covered boxes stays inside
stays_on : (plant : PlantInfo) (held seen : List Side) (region : List (List Side)) (first : List Side) (k : ℕ) (boxes : List (List Side))
    → AreTubeBoxes plant held seen first k boxes → ((j : ℕ) (b : List Side) → At boxes j b → Covers region b) → StaysInside plant held seen region first k
stays_on plant held seen region first k boxes are covers =
    down k (omega arith) first (at_start 0 refl) (let e : k - k ≡ 0 = omega arith in subst (λ j. IsBoxAfter plant held seen first j first) (sym e) refl)
  where
    at_box : (j : ℕ) (b : List Side) → j ≤ k → IsBoxAfter plant held seen first j b → Covers region b
    at_box j b le is =
        (let count = are.count in let x = at_below boxes j (omega (arith, le, count)) in
        let one : x.0 ≡ b = unique plant held seen first j x.0 b (are.are j x.0 x.1) is in covers j b (subst (At boxes j) one x.1))

    at_start : (n : ℕ) → n ≡ 0 → Covers region first
    at_start n e = at_box 0 first (omega arith) refl

    -- with r ticks left
    down : (r : ℕ) → r ≤ k → (b : List Side) → Covers region b → IsBoxAfter plant held seen first (k - r) b → StaysInside plant held seen region b r
    down zero le b c is = c
    down (suc r) le b c is =
        let count = are.count in
        let x = at_below boxes (suc (k - suc r)) (omega (arith, le, count)) in
        let after = are.are (suc (k - suc r)) x.0 x.1 in
        let one : after.0 ≡ b = unique plant held seen first (k - suc r) after.0 b after.1 is in
        let next = subst (λ q. IsNextBox plant q held seen (Ok x.0)) one after.2 in
        let e : suc (k - suc r) ≡ k - r = omega (arith, le) in
        (c, (x.0, next, down r (omega (arith, le)) x.0 (covers (suc (k - suc r)) x.0 x.1) (subst (λ j. IsBoxAfter plant held seen first j x.0) e after)))

-- the last one alone is left
single_left : (xs : List (List Side)) (n : ℕ) (x : List Side) → At xs n x → length xs ≡ n + 1 → drop n xs ≡ x ∷ []
single_left [] n x at size = absurd (none-some x at)
single_left (y ∷ ys) zero x at size =
    let none : ys ≡ [] = nil_from_length ys (omega (arith, size)) in
    ap (λ l. y ∷ l) none ∙ ap (λ z. z ∷ []) (same_Some y x at)
single_left (y ∷ ys) (suc n) x at size = single_left ys n x at (omega (arith, size))

-- what lies in a box lies in a box around it
pub within_around : (hull b : List Side) (s : List ℤ) → length hull ≡ length b → IsAround hull b → IsWithin b s → IsWithin hull s
within_around [] [] s same a w = w
within_around [] (q ∷ qs) s same a w = absurd (omega (arith, same))
within_around (r ∷ rs) [] s same a w = absurd (omega (arith, same))
within_around (r ∷ rs) (q ∷ qs) [] same a w = absurd w
within_around (r ∷ rs) (q ∷ qs) (x ∷ xs) same a w =
    let h = a 0 r q refl refl in
    (omega (arith, ints, h.0, w.0), omega (arith, ints, h.1, w.1), within_around rs qs xs (omega (arith, same)) (λ k. a (suc k)) w.2)

module _ {p : Tables} {cert : Cert} {m : ℕ} (g : Guarded p cert m) (cell : List Side) (boxes : List (List Side)) (tube : IsTubeOf g cell boxes) where
  -- a landing stands among the boxes
  pub landing_at : (box : List Side) → IsLanding g cell box → (t : ℕ) × At boxes t box × (g.sc.period ≤ t + cert.jitter)
  landing_at box l =
      let most = l.most in
      let count = tube.boxes_are.count in
      let x = at_below boxes l.tick (omega (arith, most, count)) in
      let fired : l.fired ≡ tube.fired = drafts_same p g.info g.sc g.acts cell l.fired tube.fired l.drafts tube.drafts in
      let hulls : l.hulls ≡ tube.hulls = hulls_same p.modules g.plant.sees.items l.hulls tube.hulls l.are tube.are in
      let is : IsBoxAfter g.plant (command_intervals p g.plant g.sc tube.fired.draft) (joined_boxes tube.hulls) cell l.tick box =
      subst (λ hs. IsBoxAfter g.plant (command_intervals p g.plant g.sc tube.fired.draft) (joined_boxes hs) cell l.tick box) hulls
      (subst (λ (f : Intervals). IsBoxAfter g.plant (command_intervals p g.plant g.sc f.draft) (joined_boxes l.hulls) cell l.tick box) fired l.is) in
      let same : x.0 ≡ box = unique g.plant (command_intervals p g.plant g.sc tube.fired.draft) (joined_boxes tube.hulls) cell l.tick x.0 box
      (tube.boxes_are.are l.tick x.0 x.1) is in
      (l.tick, subst (At boxes l.tick) same x.1, l.least)

  -- and what stands there from the first landing on is one
  pub at_landing : (t : ℕ) (box : List Side) → At boxes t box → g.sc.period ≤ t + cert.jitter → IsLanding g cell box
  at_landing t box at least =
      let lt = slice_get_within boxes t box at in
      let count = tube.boxes_are.count in
      record {
        fired = tube.fired;
        drafts = tube.drafts;
        hulls = tube.hulls;
        are = tube.are;
        tick = t;
        least = least;
        most = omega (arith, lt, count);
        is = tube.boxes_are.are t box at;
      }

  -- each box of the tube has the width of the cell
  pub tube_width : MeetsTableRules p → length cell ≡ width_of p.plants g.info.plant → (j : ℕ) (b : List Side) → At boxes j b → length b ≡ length cell
  tube_width rules wide j b at = at_tick j b (tube.boxes_are.are j b at)
    where
      states : length cell ≡ length g.plant.states.items
      states = wide ∙ width_at p.plants g.info.plant g.plant g.plant_is

      at_tick : (n : ℕ) (box : List Side) → IsBoxAfter g.plant (command_intervals p g.plant g.sc tube.fired.draft) (joined_boxes tube.hulls) cell n box
          → length box ≡ length cell
      at_tick zero box is = ap length is
      at_tick (suc n) box is = terms_long g.plant.next.items _ box is.2 ∙ (rules.plants g.info.plant g.plant g.plant_is).one_next ∙ sym states

  -- there is a landing, so that the boxes from the first one on are some
  pub first_inside : (first : ℕ) → first + cert.jitter ≡ g.sc.period → first < length boxes
  first_inside first is = (let count = tube.boxes_are.count in omega (arith, count, is))

  -- the hull of the boxes from the first landing on
  pub hull_is : (hull : List Side) (first : ℕ) → first + cert.jitter ≡ g.sc.period → MeetsTableRules p → length cell ≡ width_of p.plants g.info.plant
      → IsAroundAll hull (drop first boxes) → ((b : List Side) → drop first boxes ≡ b ∷ [] → hull ≡ b) → IsHullOf g cell hull
  hull_is hull first is rules wide around single = record {
    width = (let x = at_below boxes first (first_inside first is) in (around 0 x.0 (at_first x.0 x.1)).0 ∙ tube_width rules wide first x.0 x.1);
    holds = λ box s l w.
        let t = landing_at box l in
        let least = t.2 in
        let from : first ≤ t.0 = omega (arith, is, least) in
        let a = around (t.0 - first) box (at_dropped first boxes t.0 box from t.1) in
        within_around hull box s a.0 a.1 w;
    exact = λ on_time.
        let x = at_below boxes first (first_inside first is) in
        let count = tube.boxes_are.count in
        let one : drop first boxes ≡ x.0 ∷ [] = single_left boxes first x.0 x.1 (omega (arith, count, is, on_time)) in
        subst (IsLanding g cell) (sym (single x.0 one)) (at_landing first x.0 x.1 (omega (arith, is)));
  }
    where
      at_first : (b : List Side) → At boxes first b → At (drop first boxes) 0 b
      at_first b at = (let e : first - first ≡ 0 = omega arith in subst (λ n. At (drop first boxes) n b) e (at_dropped first boxes first b (omega arith) at))

  -- whether each box from the first landing on is covered
  pub each_covered : (region : List (List Side)) (first : ℕ) → first + cert.jitter ≡ g.sc.period
      → ((j : ℕ) (b : List Side) → At (drop first boxes) j b → Covers region b) → AreLandingsCovered g cell region
  each_covered region first is all box l =
      let t = landing_at box l in
      let least = t.2 in
      let from : first ≤ t.0 = omega (arith, is, least) in
      all (t.0 - first) box (at_dropped first boxes t.0 box from t.1)

  pub covered_each : (region : List (List Side)) (first : ℕ) → first + cert.jitter ≡ g.sc.period → AreLandingsCovered g cell region → (j : ℕ) (b : List Side)
      → At (drop first boxes) j b → Covers region b
  covered_each region first is all j b at = all b (at_landing (first + j) b (dropped_at first boxes j b at) (omega (arith, is)))

  -- the tube is inside the safer region where each of its boxes is covered
  pub stays_where : ((j : ℕ) (b : List Side) → At boxes j b → Covers g.info.safer.boxes b) → StaysSafer g cell
  stays_where covers = record {
    fired = tube.fired;
    drafts = tube.drafts;
    stays = record {
      hulls = tube.hulls;
      are = tube.are;
      stays =
          stays_on g.plant (command_intervals p g.plant g.sc tube.fired.draft) (joined_boxes tube.hulls) g.info.safer.boxes cell (g.sc.period + cert.jitter)
          boxes tube.boxes_are covers;
    };
  }

  pub where_stays : StaysSafer g cell → (j : ℕ) (b : List Side) → At boxes j b → Covers g.info.safer.boxes b
  where_stays s j b at =
      let fired : s.fired ≡ tube.fired = drafts_same p g.info g.sc g.acts cell s.fired tube.fired s.drafts tube.drafts in
      let hulls : s.stays.hulls ≡ tube.hulls = hulls_same p.modules g.plant.sees.items s.stays.hulls tube.hulls s.stays.are tube.are in
      let lt = slice_get_within boxes j b at in
      let count = tube.boxes_are.count in
      let there = boxes_of p g.plant (command_intervals p g.plant g.sc s.fired.draft) g.info.safer.boxes cell (g.sc.period + cert.jitter) s.stays j
      (omega (arith, lt, count)) in
      let now : IsBoxAfter g.plant (command_intervals p g.plant g.sc tube.fired.draft) (joined_boxes tube.hulls) cell j there.0 =
      subst (λ hs. IsBoxAfter g.plant (command_intervals p g.plant g.sc tube.fired.draft) (joined_boxes hs) cell j there.0) hulls
      (subst (λ (f : Intervals). IsBoxAfter g.plant (command_intervals p g.plant g.sc f.draft) (joined_boxes s.stays.hulls) cell j there.0) fired there.1) in
      let one : there.0 ≡ b = unique g.plant (command_intervals p g.plant g.sc tube.fired.draft) (joined_boxes tube.hulls) cell j there.0 b now
      (tube.boxes_are.are j b at) in
      subst (Covers g.info.safer.boxes) one there.2
