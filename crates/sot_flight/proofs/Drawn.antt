-- The numbers that the words of a generator stand for.
use Rattle.std.proofs.Common.{◌≡◌, ℕ, zero, suc, ◌+◌, ◌<◌, ◌%◌, ℤ, pos, ◌+ℤ◌, ◌-ℤ◌, ◌≤ℤ◌, ◌^◌, List, [], ◌∷◌, length, Some, refl, ap, ◌∙◌, arith}
use Rattle.std.proofs.Common.{FitsSigned, to_z, of_z, w64, negsuc}
use mir.Val.{hbits}
use Rattle.std.specs.Prelude.{unsigned_abs, Bool, true, false, ◌==◌, if◌then◌else◌}
use Rattle.std.proofs.lemmas.Int.{to_z-of_z, to_z_pos, ints}
use Rattle.std.proofs.lemmas.Option.{none-some, same_Some}
use Rattle.sot_lists.specs.Places.{At}
use Rattle.sot_box.specs.Sides.{Side, IsIn}
use Rattle.sot_box.specs.Boxes.{IsWithin}
use Rattle.sot_lang.specs.TableRules.{IsNarrow}
use Rattle.sot_random_words.specs.Words.{word}
use Rattle.sot_flight.specs.Draws.{drawn, drawn_from}
use Rattle.sot_flight.specs.declared.spread.Spread.{Spread}
use Rattle.sot_flight.specs.declared.spread.Spread.TheVariants.{Anywhere, Ends}

-- the number at a place is drawn from the word of that place
pub drawn_at : (spread : Spread) (seed stream first : ℕ) (rs : List Side) (i : ℕ) (r : Side) → At rs i r
    → At (drawn_from spread seed stream first rs) i (drawn spread r (word seed stream (first + i)))
drawn_at spread seed stream first [] i r at = absurd (none-some r at)
drawn_at spread seed stream first (s ∷ rs) zero r at =
    let e : first ≡ first + 0 = omega arith in
    ap Some (ap (λ a. drawn spread a (word seed stream first)) (same_Some s r at) ∙ ap (λ n. drawn spread r (word seed stream n)) e)
drawn_at spread seed stream first (s ∷ rs) (suc i) r at =
    let e : suc first + i ≡ first + suc i = omega arith in
    drawn_at spread seed stream (suc first) rs i r at ∙ ap (λ n. Some (drawn spread r (word seed stream n))) e

pub length-drawn_from : (spread : Spread) (seed stream first : ℕ) (rs : List Side) → length (drawn_from spread seed stream first rs) ≡ length rs
length-drawn_from spread seed stream first [] = refl
length-drawn_from spread seed stream first (r ∷ rs) = ap suc (length-drawn_from spread seed stream (suc first) rs)

-- a word's place in a range is below the width of the range
place_below : (z : ℤ) (w : ℕ) → pos 1 ≤ℤ z → (pos (w % unsigned_abs z) +ℤ pos 1) ≤ℤ z
place_below (pos k) w some = (let lt : 0 < k = omega (arith, ints, some) in omega (arith, ints))
place_below (negsuc k) w some = absurd (omega (arith, ints, some))

-- the number of a range, as it is computed in 64 bits
pub read_draw : (lo hi : ℤ) (w : ℕ) → FitsSigned w64 lo → FitsSigned w64 hi → IsNarrow lo hi
    → to_z w64 (of_z w64 (to_z w64 (of_z w64 lo) +ℤ to_z w64
    (w % unsigned_abs (to_z w64 (of_z w64 (to_z w64 (of_z w64 (to_z w64 (of_z w64 hi) -ℤ to_z w64 (of_z w64 lo))) +ℤ pos 1))))))
    ≡ drawn Anywhere (record { lo = lo; hi = hi }) w
read_draw lo hi w low high narrow =
    let ordered = narrow.0 in
    let few = narrow.1 in
    let below = place_below ((hi -ℤ lo) +ℤ pos 1) w (omega (arith, ints)) in
    let less : FitsSigned w64 (hi -ℤ lo) = omega (arith, ints) in
    let width_fits : FitsSigned w64 ((hi -ℤ lo) +ℤ pos 1) = omega (arith, ints) in
    let small : w % unsigned_abs ((hi -ℤ lo) +ℤ pos 1) < 2 ^ hbits w64 = omega (arith, ints) in
    let fits : FitsSigned w64 (lo +ℤ pos (w % unsigned_abs ((hi -ℤ lo) +ℤ pos 1))) = omega (arith, ints) in
    rw (
      to_z-of_z w64 lo low,
      to_z-of_z w64 hi high,
      to_z-of_z w64 (hi -ℤ lo) less,
      to_z-of_z w64 ((hi -ℤ lo) +ℤ pos 1) width_fits,
      to_z_pos w64 (w % unsigned_abs ((hi -ℤ lo) +ℤ pos 1)) small,
      to_z-of_z w64 (lo +ℤ pos (w % unsigned_abs ((hi -ℤ lo) +ℤ pos 1))) fits,
    ) refl

-- a number that was drawn with ends that were read
pub drawn_read : (spread : Spread) (lo hi z : ℤ) (w v : ℕ) → FitsSigned w64 lo → FitsSigned w64 hi
    → z ≡ drawn spread (record { lo = to_z w64 (of_z w64 lo); hi = to_z w64 (of_z w64 hi) }) w → w ≡ v → z ≡ drawn spread (record { lo = lo; hi = hi }) v
drawn_read spread lo hi z w v low high is same = (rw (to_z-of_z w64 lo low, to_z-of_z w64 hi high) at is) ∙ ap (drawn spread (record { lo = lo; hi = hi })) same

-- the number that a word stands for is in the range
pub drawn_in : (spread : Spread) (r : Side) (w : ℕ) → r.lo ≤ℤ r.hi → IsIn r (drawn spread r w)
drawn_in Anywhere r w ordered =
    let below = place_below ((r.hi -ℤ r.lo) +ℤ pos 1) w (omega (arith, ints)) in
    (omega (arith, ints), omega (arith, ints))
drawn_in (Ends hold) r w ordered = end ((w % 2) == 0)
  where
    end : (low : Bool) → IsIn r (if low then r.lo else r.hi)
    end true = (omega (arith, ints), ordered)
    end false = (ordered, omega (arith, ints))

-- .. and each number of a list in its range
pub drawn_within : (spread : Spread) (seed stream first : ℕ) (rs : List Side) → ((i : ℕ) (r : Side) → At rs i r → r.lo ≤ℤ r.hi)
    → IsWithin rs (drawn_from spread seed stream first rs)
drawn_within spread seed stream first [] ordered = tt
drawn_within spread seed stream first (r ∷ rs) ordered =
    let here = drawn_in spread r (word seed stream first) (ordered 0 r refl) in
    (here.0, here.1, drawn_within spread seed stream (suc first) rs (λ i s at. ordered (suc i) s at))
