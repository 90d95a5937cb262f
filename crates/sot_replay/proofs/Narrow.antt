-- What is in a range whose ends have 64 bits has 64 bits.
use Rattle.std.proofs.Common.{◌≡◌, ◌⊎◌, ⊎_elim, inl, inr, ℕ, zero, suc, ℤ, pos, negsuc, List, [], ◌∷◌, ◌++◌, length, map, take, drop, refl, sym, subst, arith}
use Rattle.std.proofs.Common.{take-append-drop}
use Rattle.std.specs.Prelude.{◌≤ℤ◌}
use Rattle.std.proofs.lemmas.Int.{ints}
use Rattle.std.proofs.lemmas.List.{length-drop}
use Rattle.std.proofs.lemmas.Option.{none-some, same_Some}
use Rattle.sot_lists.specs.Places.{At, Has}
use Rattle.sot_box.specs.Sides.{Side, IsIn}
use Rattle.sot_box.specs.Boxes.{IsWithin}
use Rattle.sot_lang.specs.declared.tables.ScalarInfo.{ScalarInfo}
use Rattle.sot_lang.specs.declared.tables.NoiseInfo.{NoiseInfo}
use Rattle.sot_lang.specs.declared.tables.PlantInfo.{PlantInfo}
use Rattle.sot_lang.specs.Ranges.{range_of}
use Rattle.sot_world.specs.Events.{noise_count, IsInBounds}
use Rattle.sot_trace_lines.specs.Bits.{Has64Bits}

between : (lo hi z : ℤ) → Has64Bits lo → Has64Bits hi → lo ≤ℤ z → z ≤ℤ hi → Has64Bits z
between lo (pos h) (pos n) low high from to = omega (arith, ints)
between lo (negsuc h) (pos n) low high from to = absurd (omega (arith, ints))
between (pos l) hi (negsuc n) low high from to = absurd (omega (arith, ints))
between (negsuc l) hi (negsuc n) low high from to = omega (arith, ints)

-- a number in the range of a scalar; where there is no scalar, the range is 0 alone
pub in_range : (infos : List ScalarInfo) → ((k : ℕ) (info : ScalarInfo) → At infos k info → Has64Bits info.lo × Has64Bits info.hi) → (k : ℕ) (z : ℤ)
    → IsIn (range_of infos k) z → Has64Bits z
in_range [] ends k z inside = between (pos 0) (pos 0) z (omega arith) (omega arith) inside.0 inside.1
in_range (x ∷ xs) ends zero z inside = (let e = ends 0 x refl in between x.lo x.hi z e.0 e.1 inside.0 inside.1)
in_range (x ∷ xs) ends (suc k) z inside = in_range xs (λ n info at. ends (suc n) info at) k z inside

-- a disturbance of one plant
within : (infos : List NoiseInfo) → ((k : ℕ) (info : NoiseInfo) → At infos k info → Has64Bits info.lo × Has64Bits info.hi)
    → (w : List ℤ) → IsWithin (map (λ d. let s : Side = record { lo = d.lo; hi = d.hi } in s) infos) w → (i : ℕ) (z : ℤ) → At w i z → Has64Bits z
within [] ends [] inside i z at = absurd (none-some z at)
within [] ends (x ∷ w) inside i z at = absurd inside
within (d ∷ infos) ends [] inside i z at = absurd inside
within (d ∷ infos) ends (x ∷ w) inside zero z at = (let e = ends 0 d refl in subst Has64Bits (same_Some x z at) (between d.lo d.hi x e.0 e.1 inside.0 inside.1))
within (d ∷ infos) ends (x ∷ w) inside (suc i) z at = within infos (λ n info here. ends (suc n) info here) w inside.2 i z at

-- what stands in one of two lists
in_either : (xs ys : List ℤ) (i : ℕ) (z : ℤ) → At (xs ++ ys) i z → At xs i z ⊎ Has ys z
in_either [] ys i z at = inr (i, at)
in_either (x ∷ xs) ys zero z at = inl at
in_either (x ∷ xs) ys (suc i) z at = in_either xs ys i z at

-- .. of all plants
pub in_bounds :
    (plants : List PlantInfo) → ((k : ℕ) (plant : PlantInfo) (i : ℕ) (info : NoiseInfo) → At plants k plant → At plant.noise.items i info
    → Has64Bits info.lo × Has64Bits info.hi)
    → (w : List ℤ) → length w ≡ noise_count plants → IsInBounds plants w → (i : ℕ) (z : ℤ) → At w i z → Has64Bits z
in_bounds [] ends [] size inside i z at = absurd (none-some z at)
in_bounds [] ends (x ∷ w) size inside i z at = absurd (omega (arith, size))
in_bounds (k ∷ ks) ends w size inside i z at =
    let n = length k.noise.items in
    let split = in_either (take n w) (drop n w) i z (subst (λ l. At l i z) (sym (take-append-drop n w)) at) in
    ⊎_elim
    (λ own. within k.noise.items (λ j info here. ends 0 k j info refl here) (take n w) inside.0 i z own)
    (λ rest. in_bounds ks (λ j plant m info here there. ends (suc j) plant m info here there) (drop n w) (omega (arith, size, length-drop n w)) inside.1 rest.0
    z rest.1)
    split
