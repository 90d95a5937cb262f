-- The boxes of tubes hold what a plant can come to.
use Rattle.std.proofs.Common.{◌≡◌, ℕ, zero, suc, ◌+◌, ◌-◌, ℤ, List, Ok, refl, sym, ◌∙◌, subst, arith}
use Rattle.sot_box.specs.Sides.{Side}
use Rattle.sot_box.specs.Boxes.{IsWithin}
use Rattle.sot_box.specs.Regions.{Covers}
use Rattle.sot_lang.specs.declared.tables.PlantInfo.{PlantInfo}
use Rattle.sot_lang.specs.Tables.{Tables}
use Rattle.sot_lang.specs.Values.{Outcome}
use Rattle.sot_lang.specs.Ranges.{input_ranges}
use Rattle.sot_lang.specs.Ticks.{joined}
use Rattle.sot_lang.specs.SafeRegions.{AreHulls, joined_boxes}
use Rattle.sot_lang.specs.Reach.{ComesTo}
use Rattle.sot_iv.specs.PlantIntervals.{IsNextBox}
use Rattle.sot_iv.specs.TermIntervals.{OrMayTrap}
use Rattle.sot_iv.proofs.Plants.{plant_sound, plant_same}
use Rattle.sot_tube.specs.Tubes.{StaysInside}
use Rattle.sot_tube.proofs.Tubes.{within_hulls}
use Rattle.sot_law_runs.specs.TubeBoxes.{IsBoxAfter, IsPointOf, TubesHaveTheirBoxes, BoxesAreUnique, AnyReachIsInTheBox, HeldReachIsInTheBox}

stays_covers : (plant : PlantInfo) (cs hs : List Side) (region : List (List Side)) (b : List Side) (k : ℕ) → StaysInside plant cs hs region b k
    → Covers region b
stays_covers plant cs hs region b zero h = h
stays_covers plant cs hs region b (suc k) h = h.0

-- after j ticks of a tube the rest of it stays inside
rest_stays : (plant : PlantInfo) (cs hs : List Side) (region : List (List Side)) (b : List Side) (j r : ℕ) → StaysInside plant cs hs region b (j + r)
    → (box : List Side) × IsBoxAfter plant cs hs b j box × StaysInside plant cs hs region box r
rest_stays plant cs hs region b zero r h = (let e : 0 + r ≡ r = omega arith in (b, refl, subst (StaysInside plant cs hs region b) e h))
rest_stays plant cs hs region b (suc j) r h =
    let e : suc j + r ≡ j + suc r = omega arith in
    let before = rest_stays plant cs hs region b j (suc r) (subst (StaysInside plant cs hs region b) e h) in
    (before.2.1.0, (before.0, before.1, before.2.1.1), before.2.1.2)

pub boxes : TubesHaveTheirBoxes
boxes p plant cs region first k tube j le =
    let e : k ≡ j + (k - j) = omega arith in
    let rest = rest_stays plant cs (joined_boxes tube.hulls) region first j (k - j)
    (subst (StaysInside plant cs (joined_boxes tube.hulls) region first) e tube.stays) in
    (rest.0, rest.1, stays_covers plant cs (joined_boxes tube.hulls) region rest.0 (k - j) rest.2)

ok_same : (a b : List Side) → ◌≡◌ {A = OrMayTrap (List Side)} (Ok a) (Ok b) → a ≡ b
ok_same a b e = cc

pub unique : BoxesAreUnique
unique plant cs hs first zero box other a b = a ∙ sym b
unique plant cs hs first (suc j) box other a b =
    let same : b.0 ≡ a.0 = unique plant cs hs first j b.0 a.0 b.1 a.1 in
    ok_same box other (plant_same plant a.0 cs hs (Ok box) (Ok other) a.2 (subst (λ x. IsNextBox plant x cs hs (Ok other)) same b.2))

-- what the plant comes to under allowed commands
comes : (p : Tables) (plant : PlantInfo) (Allowed : List ℤ → Type 0) (cs : List Side) (hulls : List (List Side)) (first box : List Side) (j : ℕ) (s : List ℤ)
    (o : Outcome (List ℤ)) → ((c : List ℤ) → Allowed c → IsWithin cs c) → AreHulls p.modules plant.sees.items hulls
    → IsBoxAfter plant cs (joined_boxes hulls) first j box → IsWithin first s → ComesTo p plant Allowed s j o → IsPointOf box o
comes p plant Allowed cs hulls first box zero s o allowed are is w c = (s, c, subst (λ b. IsWithin b s) (sym is) w)
comes p plant Allowed cs hulls first box (suc j) s o allowed are is w c =
    let before = comes p plant Allowed cs hulls first is.0 j s (Ok c.0) allowed are is.1 w c.1 in
    let same : c.0 ≡ before.0 = point_same c.0 before.0 before.1 in
    let t = c.2 in
    let v = plant_sound plant is.0 cs (joined_boxes hulls) box c.0 t.c (joined t.seen) t.w (subst (IsWithin is.0) (sym same) before.2) (allowed t.c t.allowed)
    (within_hulls p.modules plant.sees.items t.seen hulls t.safe are) t.bounded is.2 in
    (v.0, t.is ∙ v.1, v.2)
  where
    point_same : (a b : List ℤ) → ◌≡◌ {A = Outcome (List ℤ)} (Ok a) (Ok b) → a ≡ b
    point_same a b e = cc

pub any : AnyReachIsInTheBox
any p plant hulls first box j s o are is w c =
    comes p plant (IsWithin (input_ranges p plant)) (input_ranges p plant) hulls first box j s o (λ d h. h) are is w c

pub held : HeldReachIsInTheBox
held p plant cs hulls first box j s c o in_cs are is w h =
    comes p plant (λ d. d ≡ c) cs hulls first box j s o (λ d e. subst (IsWithin cs) (sym e) in_cs) are is w h
