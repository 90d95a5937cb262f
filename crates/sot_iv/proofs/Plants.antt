-- The next boxes of a plant: sound, one, and narrower from narrower ones.
use Rattle.std.proofs.Common.{◌≡◌, ℤ, List, [], ◌∷◌, ◌++◌, Ok, refl, sym, subst, arith}
use Rattle.std.proofs.lemmas.Int.{ints}
use Rattle.sot_box.specs.Sides.{Side}
use Rattle.sot_box.specs.Boxes.{IsWithin}
use Rattle.sot_lang.specs.declared.term.Term.{Term}
use Rattle.sot_lang.specs.declared.tables.PlantInfo.{PlantInfo}
use Rattle.sot_lang.specs.Ranges.{bounds}
use Rattle.sot_lang.specs.Ticks.{values, next_state}
use Rattle.sot_box.proofs.Ranges.{within_append}
use Rattle.sot_iv.specs.TermIntervals.{OrMayTrap, IsTermInterval, AreTermIntervals}
use Rattle.sot_iv.specs.PlantIntervals.{IsNextBox}
use Rattle.sot_iv.specs.Monotony.{AreNarrower}
use Rattle.sot_iv.proofs.Sound.{sound, joins_ok}
use Rattle.sot_iv.proofs.Unique.{terms_same}
use Rattle.sot_iv.proofs.Narrow.{terms_narrow, narrow_append, le_refl_ℤ}

pub terms_sound : (ts : List Term) (rs : List Side) (env : List ℤ) (xs : List Side) → IsWithin rs env → AreTermIntervals ts rs (Ok xs)
    → (zs : List ℤ) × (values ts env ≡ Ok zs) × IsWithin xs zs
terms_sound [] rs env xs w h = (let e : xs ≡ [] = cc in ([], refl, subst (λ q. IsWithin q []) (sym e) tt))
terms_sound (t ∷ ts) rs env xs w h =
    let x = joins_ok h.0 xs _ h.2 in
    let z = sound t rs env x.0 w (subst (IsTermInterval t rs) x.2 h.1) in
    let zs = terms_sound ts rs env x.1 w x.3 in
    (z.0 ∷ zs.0, rw (z.1, zs.1) refl, subst (λ q. IsWithin q (z.0 ∷ zs.0)) (sym x.4) (z.2.0, z.2.1, zs.2))

pub plant_sound : (plant : PlantInfo) (box commands seen next : List Side) (s c v w : List ℤ) → IsWithin box s → IsWithin commands c → IsWithin seen v
    → IsWithin (bounds plant) w → IsNextBox plant box commands seen (Ok next) → (t : List ℤ) × (next_state plant s c v w ≡ Ok t) × IsWithin next t
unfolding next_state
plant_sound plant box commands seen next s c v w is ic iv iw h =
    terms_sound plant.next.items (box ++ commands ++ seen ++ bounds plant) (s ++ c ++ v ++ w) next
    (within_append (box ++ commands ++ seen) (bounds plant) (s ++ c ++ v) w
    (within_append (box ++ commands) seen (s ++ c) v (within_append box commands s c is ic) iv) iw) h

pub narrow_self : (rs : List Side) (w : List ℤ) → IsWithin rs w → AreNarrower rs rs
narrow_self [] [] w = tt
narrow_self (r ∷ rs) (z ∷ zs) w = ((le_refl_ℤ r.lo, omega (arith, ints, w.0, w.1), le_refl_ℤ r.hi), narrow_self rs zs w.2)
narrow_self [] (z ∷ zs) w = absurd w
narrow_self (r ∷ rs) [] w = absurd w

pub plant_narrow : (plant : PlantInfo) (box commands seen box_wide commands_wide seen_wide next : List Side) (w : List ℤ) (o : OrMayTrap (List Side))
    → AreNarrower box box_wide → AreNarrower commands commands_wide → AreNarrower seen seen_wide → IsWithin (bounds plant) w
    → IsNextBox plant box_wide commands_wide seen_wide (Ok next) → IsNextBox plant box commands seen o → (b : List Side) × (o ≡ Ok b) × AreNarrower b next
plant_narrow plant box commands seen box_wide commands_wide seen_wide next w o nb nc ns iw y x =
    terms_narrow plant.next.items (box ++ commands ++ seen ++ bounds plant) (box_wide ++ commands_wide ++ seen_wide ++ bounds plant) next o
    (narrow_append (box ++ commands ++ seen) (bounds plant) (box_wide ++ commands_wide ++ seen_wide) (bounds plant)
    (narrow_append (box ++ commands) seen (box_wide ++ commands_wide) seen_wide (narrow_append box commands box_wide commands_wide nb nc) ns)
    (narrow_self (bounds plant) w iw)) y x

pub plant_same : (plant : PlantInfo) (box commands seen : List Side) (o p : OrMayTrap (List Side)) → IsNextBox plant box commands seen o
    → IsNextBox plant box commands seen p → o ≡ p
plant_same plant box commands seen o p x y = terms_same plant.next.items (box ++ commands ++ seen ++ bounds plant) o p x y
