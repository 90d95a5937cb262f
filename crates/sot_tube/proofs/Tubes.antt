-- Tubes hold each point that a plant can come to.
use Rattle.std.proofs.Common.{◌≡◌, ℕ, zero, suc, ◌+◌, ◌*◌, ◌≤◌, ℤ, ◌≤ℤ◌, ◌⊎◌, inl, inr, ⊎_elim, List, [], ◌∷◌, Ok, refl, sym, ◌∙◌, subst, arith}
use Rattle.std.proofs.lemmas.Int.{ints}
use Rattle.sot_box.specs.Sides.{Side}
use Rattle.sot_lang.specs.declared.tables.PlantInfo.{PlantInfo}
use Rattle.sot_lang.specs.declared.tables.ModuleInfo.{ModuleInfo}
use Rattle.sot_lang.specs.Tables.{Tables}
use Rattle.sot_lang.specs.Values.{Outcome}
use Rattle.sot_lists.specs.Places.{At}
use Rattle.sot_box.specs.Boxes.{IsWithin, point_box}
use Rattle.sot_box.specs.Regions.{Covers}
use Rattle.sot_lang.specs.SafeRegions.{AreSafe, AreHulls, joined_boxes}
use Rattle.sot_lang.specs.Reach.{TicksTo, ComesTo, Reach, AnyReach, AllInside, IsInside}
use Rattle.sot_lang.specs.Ranges.{input_ranges}
use Rattle.sot_lang.specs.Ticks.{joined}
use Rattle.sot_tube.specs.Tubes.{IsNextBox, StaysInside, TubeInside, AnyTubeInside, Keeps}
use Rattle.sot_lists.proofs.Places.{at_same}
use Rattle.sot_box.proofs.Ranges.{within_append}
use Rattle.sot_iv.proofs.Plants.{plant_sound}

pub within_box_of : (s : List ℤ) → IsWithin (point_box s) s
within_box_of [] = tt
within_box_of (z ∷ zs) = (let r : z ≤ℤ z = omega (arith, ints) in (r, r, within_box_of zs))

pub within_hulls : (ms : List ModuleInfo) (ks : List ℕ) (ss : List (List ℤ)) (hs : List (List Side)) → AreSafe ms ks ss → AreHulls ms ks hs
    → IsWithin (joined_boxes hs) (joined ss)
within_hulls ms [] [] [] a h = tt
within_hulls ms (k ∷ ks) (s ∷ ss) (b ∷ bs) a h = within_append b (joined_boxes bs) s (joined ss) (h.0.holds s a.0) (within_hulls ms ks ss bs a.1 h.1)
within_hulls ms [] (s ∷ ss) hs a h = absurd a
within_hulls ms (k ∷ ks) [] hs a h = absurd a
within_hulls ms [] [] (b ∷ bs) a h = absurd h
within_hulls ms (k ∷ ks) (s ∷ ss) [] a h = absurd h

-- a tick from a point of a box ends at a point of the next box
next_within : (p : Tables) (plant : PlantInfo) (Allowed : List ℤ → Type 0) (cs hs b b' : List Side) (s : List ℤ) (o : Outcome (List ℤ))
    → ((c : List ℤ) → Allowed c → IsWithin cs c) → ((ss : List (List ℤ)) → AreSafe p.modules plant.sees.items ss → IsWithin hs (joined ss)) → IsWithin b s
    → IsNextBox plant b cs hs (Ok b') → TicksTo p plant Allowed s o → (s' : List ℤ) × (o ≡ Ok s') × IsWithin b' s'
next_within p plant Allowed cs hs b b' s o allowed seen w n t =
    let v = plant_sound plant b cs hs b' s t.c (joined t.seen) t.w w (allowed t.c t.allowed) (seen t.seen t.safe) t.bounded n in
    (v.0, t.is ∙ v.1, v.2)

-- what comes after some ticks is there after one, or comes from there
first_tick : (p : Tables) (plant : PlantInfo) (Allowed : List ℤ → Type 0) (s : List ℤ) (j : ℕ) (o : Outcome (List ℤ)) → ComesTo p plant Allowed s (suc j) o
    → ((j ≡ 0) × TicksTo p plant Allowed s o) ⊎ ((s1 : List ℤ) × TicksTo p plant Allowed s (Ok s1) × ComesTo p plant Allowed s1 j o)
first_tick p plant Allowed s zero o h = (let e : h.0 ≡ s = cc in inl (refl, subst (λ q. TicksTo p plant Allowed q o) e h.2))
first_tick p plant Allowed s (suc j) o h =
    ⊎_elim
    (λ (one : (j ≡ 0) × TicksTo p plant Allowed s (Ok h.0)). inr (h.0, one.1, subst (λ i. ComesTo p plant Allowed h.0 (suc i) o) (sym one.0) (h.0, refl, h.2)))
    (λ (more : (s1 : List ℤ) × TicksTo p plant Allowed s (Ok s1) × ComesTo p plant Allowed s1 j (Ok h.0)). inr (more.0, more.1, (h.0, more.2, h.2)))
    (first_tick p plant Allowed s j (Ok h.0) h.1)

module _ (p : Tables) (plant : PlantInfo) (Allowed : List ℤ → Type 0) (cs hs : List Side) (region : List (List Side))
    (allowed : (c : List ℤ) → Allowed c → IsWithin cs c) (seen : (ss : List (List ℤ)) → AreSafe p.modules plant.sees.items ss → IsWithin hs (joined ss)) where
  stays_covers : (b : List Side) (k : ℕ) → StaysInside plant cs hs region b k → Covers region b
  stays_covers b zero h = h
  stays_covers b (suc k) h = h.0

  comes_inside : (b : List Side) (k j : ℕ) (s : List ℤ) (o : Outcome (List ℤ)) → j ≤ k → IsWithin b s → StaysInside plant cs hs region b k
      → ComesTo p plant Allowed s j o → IsInside region o
  comes_inside b k zero s o le w h c = subst (IsInside region) (sym c) (stays_covers b k h s w)
  comes_inside b zero (suc j) s o le w h c = absurd (omega arith)
  comes_inside b (suc k) (suc j) s o le w h c =
      ⊎_elim
      (λ (one : (j ≡ 0) × TicksTo p plant Allowed s o).
      let n = next_within p plant Allowed cs hs b h.1.0 s o allowed seen w h.1.1 one.1 in
      subst (IsInside region) (sym n.1) (stays_covers h.1.0 k h.1.2 n.0 n.2))
      (λ (more : (s1 : List ℤ) × TicksTo p plant Allowed s (Ok s1) × ComesTo p plant Allowed s1 j o).
      let n = next_within p plant Allowed cs hs b h.1.0 s (Ok more.0) allowed seen w h.1.1 more.1 in
      let e : more.0 ≡ n.0 = cc in
      let w1 : IsWithin h.1.0 more.0 = subst (IsWithin h.1.0) (sym e) n.2 in
      comes_inside h.1.0 k j more.0 o (omega arith) w1 h.1.2 more.2)
      (first_tick p plant Allowed s j o c)

-- a tube that is inside a region keeps each reach from its box inside
pub tube_inside : (p : Tables) (plant : PlantInfo) (Allowed : List ℤ → Type 0) (cs : List Side) (region : List (List Side)) (b : List Side) (k : ℕ) (s : List ℤ)
    → ((c : List ℤ) → Allowed c → IsWithin cs c) → IsWithin b s → TubeInside p plant cs region b k → AllInside (Reach p plant Allowed s k) region
tube_inside p plant Allowed cs region b k s allowed w t =
    λ o r. comes_inside p plant Allowed cs (joined_boxes t.hulls) region allowed (λ ss safe. within_hulls p.modules plant.sees.items ss t.hulls safe t.are) b k
    r.0 s o r.1 w t.stays r.2

pub keeps_inside : (p : Tables) (j : ℕ) (a : ModuleInfo) (plant : PlantInfo) (s : List ℤ) → At p.plants a.plant plant → Keeps p j a s
    → AllInside (AnyReach p plant s (2 * (a.period + j))) a.safe.boxes
keeps_inside p j a plant s at k =
    let same : k.plant ≡ plant = at_same p.plants a.plant k.plant plant k.is at in
    let t : AnyTubeInside p plant a.safe.boxes (point_box s) (2 * (a.period + j)) =
    subst (λ x. AnyTubeInside p x a.safe.boxes (point_box s) (2 * (a.period + j))) same k.inside in
    tube_inside p plant (IsWithin (input_ranges p plant)) (input_ranges p plant) a.safe.boxes (point_box s) (2 * (a.period + j)) s (λ c w. w) (within_box_of s)
    t
