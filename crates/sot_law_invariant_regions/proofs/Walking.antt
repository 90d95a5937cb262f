-- A tube that stays among some points, tick by tick, and one from a narrower box.
use Rattle.std.proofs.Common.{◌≡◌, ℕ, zero, suc, ◌+◌, ◌-◌, ◌<◌, ℤ, List, [], ◌∷◌, ◌++◌, Ok, Err, subst, arith}
use Rattle.std.proofs.lemmas.Int.{ints}
use Rattle.sot_box.specs.Sides.{Side, AreOrdered}
use Rattle.sot_box.specs.Boxes.{IsWithin, lows, point_box}
use Rattle.sot_box.proofs.Ranges.{lows_within}
use Rattle.sot_lang.specs.declared.tables.PlantInfo.{PlantInfo}
use Rattle.sot_lang.specs.Ranges.{bounds}
use Rattle.sot_iv.specs.declared.may_trap.MayTrap.{MayTrap}
use Rattle.sot_iv.specs.PlantIntervals.{IsNextBox}
use Rattle.sot_iv.specs.Monotony.{AreNarrower}
use Rattle.sot_iv.proofs.Narrow.{within_narrow}
use Rattle.sot_iv.proofs.NarrowBoxes.{narrower_ordered, ordered_narrower}
use Rattle.sot_iv.proofs.Plants.{plant_same, plant_narrow}
use Rattle.sot_law_invariant_regions.specs.Following.{LiesAmong, StaysAmong}
use Rattle.sot_law_invariant_regions.specs.Walks.{SomeTubeStays}

pub point_within : (s : List ℤ) → IsWithin (point_box s) s
point_within [] = tt
point_within (z ∷ zs) = (omega (arith, ints), omega (arith, ints), point_within zs)

module _ (P : List ℤ → Type 0) (plant : PlantInfo) where
  pub stays_lies : (commands seen b : List Side) (k : ℕ) → StaysAmong P plant commands seen b k → LiesAmong P b
  stays_lies commands seen b zero h = h
  stays_lies commands seen b (suc k) h = h.0

  -- the same among more points
  pub stays_more : (Q : List ℤ → Type 0) → ((s : List ℤ) → P s → Q s) → (commands seen b : List Side) (k : ℕ) → StaysAmong P plant commands seen b k
      → StaysAmong Q plant commands seen b k
  stays_more Q more commands seen b zero h = λ s w. more s (h s w)
  stays_more Q more commands seen b (suc k) h = ((λ s w. more s (h.0 s w)), (h.1.0, h.1.1, stays_more Q more commands seen h.1.0 k h.1.2))

  -- one tick more
  left : (ticks n : ℕ) → n < ticks → ticks - n ≡ suc (ticks - suc n)
  left ticks n lt = omega (arith, lt)

  module _ (commands seen b : List Side) (ticks n : ℕ) (lt : n < ticks) where
    pub stays_on : (next : List Side) → IsNextBox plant b commands seen (Ok next) → StaysAmong P plant commands seen b (ticks - n)
        → StaysAmong P plant commands seen next (ticks - suc n)
    stays_on next told h =
        let s = subst (StaysAmong P plant commands seen b) (left ticks n lt) h in
        let e = plant_same plant b commands seen (Ok s.1.0) (Ok next) s.1.1 told in
        let same : s.1.0 ≡ next = cc in
        subst (λ q. StaysAmong P plant commands seen q (ticks - suc n)) same s.1.2

    pub stays_never : (t : MayTrap) → IsNextBox plant b commands seen (Err t) → StaysAmong P plant commands seen b (ticks - n) → ⊥
    stays_never t told h =
        let s = subst (StaysAmong P plant commands seen b) (left ticks n lt) h in
        let e = plant_same plant b commands seen (Ok s.1.0) (Err t) s.1.1 told in
        cc

    -- from a narrower box
    pub some_on : (next : List Side) → AreOrdered seen → AreOrdered (bounds plant) → IsNextBox plant b commands seen (Ok next)
        → SomeTubeStays P plant commands seen b (ticks - n) → SomeTubeStays P plant commands seen next (ticks - suc n)
    some_on next ordered noise told h =
        let s = subst (StaysAmong P plant h.held seen h.first) (left ticks n lt) h.stays in
        let f = plant_narrow plant h.first h.held seen b commands seen next (lows (bounds plant)) (Ok s.1.0) h.in_box h.in_commands
        (ordered_narrower seen ordered) (lows_within (bounds plant) noise) told s.1.1 in
        let same : f.0 ≡ s.1.0 = (let e = f.1 in cc) in
        record {
          first = s.1.0;
          held = h.held;
          in_box = subst (λ q. AreNarrower q next) same f.2;
          in_commands = h.in_commands;
          stays = s.1.2;
        }

  -- a box of which no point is among them has no such tube
  pub some_never : (commands seen b : List Side) (k : ℕ) → ((s : List ℤ) → IsWithin b s → P s → ⊥) → SomeTubeStays P plant commands seen b k → ⊥
  some_never commands seen b k apart h =
      let o = narrower_ordered h.first b h.in_box in
      let s = lows h.first in
      let w = lows_within h.first o in
      apart s (within_narrow h.first b s h.in_box w) (stays_lies h.held seen h.first k h.stays s w)
