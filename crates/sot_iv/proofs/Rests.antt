-- The rests of an interval's numbers.
use Rattle.std.proofs.Common.{◌≡◌, ℕ, zero, suc, ◌+◌, ◌*◌, ◌%◌, ◌<◌, ℤ, pos, negsuc, ◌+ℤ◌, ◌-ℤ◌, ◌*ℤ◌, ◌≤ℤ◌, true, false, ⊎_elim, [], ◌∷◌, refl, sym, ap, subst}
use Rattle.std.proofs.Common.{arith}
use Rattle.std.specs.Prelude.{int_le}
use Rattle.std.proofs.lemmas.Bool.{cases_Bool}
use Rattle.std.proofs.lemmas.Int.{ints}
use Rattle.std.proofs.Math.Nat.{div-add-mod, mod-lt, add-mul}
use borrow.Author.Differences.{up, down}
use Rattle.sot_box.specs.Sides.{Side, IsIn}
use Rattle.sot_lang.specs.Values.{floor_by, floor_div}
use Rattle.sot_iv.specs.TermIntervals.{IsLeast, rest_result}
use Rattle.sot_iv.specs.Ends.{side, rest}
use Rattle.sot_iv.proofs.Least.{IsOrdered, low_in, high_in}
use Rattle.sot_iv.proofs.Floors.{floor_mono, times_mono, rests_ordered}
use Rattle.sot_iv.proofs.Images.{ImageOf, one_least}

-- a floor times the divisor is at most the number, and less than the divisor below it
floor_bounds : (a : ℤ) (k : ℕ) → 0 < k → ((floor_by a k *ℤ pos k) ≤ℤ a) × (a ≤ℤ ((floor_by a k *ℤ pos k) +ℤ (pos k -ℤ pos 1)))
floor_bounds (pos a) k p =
    let d = div-add-mod a k in
    let r : a % k < k = mod-lt a p in
    (omega (arith, ints, d, r), omega (arith, ints, d, r, p))
floor_bounds (negsuc a) k p =
    let d = div-add-mod a k in
    let r : a % k < k = mod-lt a p in
    (omega (arith, ints, d, r), omega (arith, ints, d, r, p))

pub distrib : (p : ℤ) (m : ℕ) → ((p +ℤ pos 1) *ℤ pos m) ≡ ((p *ℤ pos m) +ℤ pos m)
distrib p m =
    let e : (up (p +ℤ pos 1) + down p) * m ≡ ((up p + 1) + down (p +ℤ pos 1)) * m = ap (λ x. x * m) (omega (arith, ints)) in
    let a = add-mul (up (p +ℤ pos 1)) (down p) m in
    let b = add-mul (up p + 1) (down (p +ℤ pos 1)) m in
    let c = add-mul (up p) 1 m in
    omega (arith, ints, e, a, b, c)

below : (k : ℕ) (p q : ℤ) → (p +ℤ pos 1) ≤ℤ q → ((p *ℤ pos k) +ℤ pos k) ≤ℤ (q *ℤ pos k)
below k p q h = (let m = times_mono (p +ℤ pos 1) q (pos k) h (omega (arith, ints)) in subst (λ z. z ≤ℤ (q *ℤ pos k)) (distrib p k) m)

-- and no other number times the divisor is
floor_unique : (a : ℤ) (k : ℕ) (q : ℤ) → 0 < k → (q *ℤ pos k) ≤ℤ a → a ≤ℤ ((q *ℤ pos k) +ℤ (pos k -ℤ pos 1)) → floor_by a k ≡ q
floor_unique a k q p l h =
    let b = floor_bounds a k p in
    let f = floor_by a k in
    let u : f ≤ℤ q = at_most f q (λ g. let m = below k q f g in absurd (omega (arith, ints, m, b.0, h))) in
    let v : q ≤ℤ f = at_most q f (λ g. let m = below k f q g in absurd (omega (arith, ints, m, b.1, l))) in
    omega (arith, ints, u, v)
  where
    at_most : (x y : ℤ) → ((y +ℤ pos 1) ≤ℤ x → ⊥) → x ≤ℤ y
    at_most x y no' = ⊎_elim
        (λ (t : int_le x y ≡ true). grind (arith, ints, t))
        (λ (f : int_le x y ≡ false). absurd (no' (grind (arith, ints, f))))
        (cases_Bool (int_le x y))

-- the number before a multiple
last : (q : ℤ) (k : ℕ) → (q *ℤ pos k) -ℤ pos 1 ≡ ((q -ℤ pos 1) *ℤ pos k) +ℤ (pos k -ℤ pos 1)
last q k =
    let d = distrib (q -ℤ pos 1) k in
    let e : (q -ℤ pos 1) +ℤ pos 1 ≡ q = omega (arith, ints) in
    let f : q *ℤ pos k ≡ ((q -ℤ pos 1) *ℤ pos k) +ℤ pos k = subst (λ z. z *ℤ pos k ≡ ((q -ℤ pos 1) *ℤ pos k) +ℤ pos k) e d in
    omega (arith, ints, f)

swap : (k q : ℤ) → k *ℤ q ≡ q *ℤ k
swap k q = omega (arith, ints)

module _ (n : ℕ) (x : Side) (o : IsOrdered x) where
  by : ℤ
  by = pos (suc n)

  -- within the divisor's bounds
  rest_in : (a : ℤ) → IsIn (side (pos 0) (pos (suc n) -ℤ pos 1)) (rest_result (pos (suc n)) (a ∷ []))
  rest_in a =
      (let b = floor_bounds a (suc n) (omega arith) in let e = swap (pos (suc n)) (floor_by a (suc n)) in
      rw e (omega (arith, ints, b.0), omega (arith, ints, b.1)))

  rest_at : (a q r : ℤ) → a ≡ ((q *ℤ pos (suc n)) +ℤ r) → pos 0 ≤ℤ r → r ≤ℤ (pos (suc n) -ℤ pos 1) → r ≡ rest_result (pos (suc n)) (a ∷ [])
  rest_at a q r is l h =
      let f : floor_by a (suc n) ≡ q = floor_unique a (suc n) q (omega arith) (omega (arith, ints, is, l)) (omega (arith, ints, is, h)) in
      rw (f, swap (pos (suc n)) q, is) (omega (arith, ints))

  same_floor : (a : ℤ) → IsIn x a → floor_by x.hi (suc n) ≤ℤ floor_by x.lo (suc n)
      → (floor_by x.lo (suc n) ≡ floor_by a (suc n)) × (floor_by a (suc n) ≡ floor_by x.hi (suc n))
  same_floor a i le =
      let u = floor_mono x.lo a (suc n) (omega arith) i.0 in
      let v = floor_mono a x.hi (suc n) (omega arith) i.1 in
      (omega (arith, ints, u, v, le), omega (arith, ints, u, v, le))

  wide_low : (q : ℤ) → q ≡ floor_by x.hi (suc n) → (floor_by x.lo (suc n) +ℤ pos 1) ≤ℤ q → (x.lo +ℤ pos 1) ≤ℤ (q *ℤ pos (suc n))
  wide_low q e lt =
      let b = floor_bounds x.lo (suc n) (omega arith) in
      let m = below (suc n) (floor_by x.lo (suc n)) q lt in
      omega (arith, ints, b.1, m)

  wide_high : (q : ℤ) → q ≡ floor_by x.hi (suc n) → (q *ℤ pos (suc n)) ≤ℤ x.hi
  wide_high q e = (let b = floor_bounds x.hi (suc n) (omega arith) in subst (λ z. (z *ℤ pos (suc n)) ≤ℤ x.hi) (sym e) b.0)

  rest_least_by : IsLeast (ImageOf (rest_result (pos (suc n))) (x ∷ [])) (rest (pos (suc n)) x)
  rest_least_by =
      ⊎_elim
      (λ (t : int_le (floor_div x.hi (pos (suc n))) (floor_div x.lo (pos (suc n))) ≡ true).
      let le : floor_by x.hi (suc n) ≤ℤ floor_by x.lo (suc n) = grind (arith, ints, t) in
      rw t (one_least (rest_result (pos (suc n))) x
      (side (x.lo -ℤ (pos (suc n) *ℤ floor_by x.lo (suc n))) (x.hi -ℤ (pos (suc n) *ℤ floor_by x.hi (suc n))))
      (λ a i. let s = same_floor a i le in (rests_ordered x.lo a (pos (suc n)) _ _ i.0 s.0, rests_ordered a x.hi (pos (suc n)) _ _ i.1 s.1))
      (x.lo, low_in x o, refl)
      (x.hi, high_in x o, refl)))
      (λ (f : int_le (floor_div x.hi (pos (suc n))) (floor_div x.lo (pos (suc n))) ≡ false).
      let lt : (floor_by x.lo (suc n) +ℤ pos 1) ≤ℤ floor_by x.hi (suc n) = grind (arith, ints, f) in
      let q = floor_by x.hi (suc n) in
      let m = wide_low q refl lt in
      let h = wide_high q refl in
      rw f (one_least (rest_result (pos (suc n))) x (side (pos 0) (pos (suc n) -ℤ pos 1))
      (λ a i. rest_in a)
      (q *ℤ pos (suc n), (omega (arith, ints, m), h), rest_at (q *ℤ pos (suc n)) q (pos 0) (omega (arith, ints)) (omega (arith, ints)) (omega (arith, ints))) (
        (q *ℤ pos (suc n)) -ℤ pos 1,
        (omega (arith, ints, m), omega (arith, ints, h)),
        rest_at ((q *ℤ pos (suc n)) -ℤ pos 1) (q -ℤ pos 1) (pos (suc n) -ℤ pos 1) (last q (suc n)) (omega (arith, ints)) (omega (arith, ints)),
      )))
      (cases_Bool (int_le (floor_div x.hi (pos (suc n))) (floor_div x.lo (pos (suc n)))))

pub rest_least : (k : ℤ) (x : Side) → pos 1 ≤ℤ k → IsOrdered x → IsLeast (ImageOf (rest_result k) (x ∷ [])) (rest k x)
rest_least (pos zero) x p o = absurd (omega (arith, ints, p))
rest_least (pos (suc n)) x p o = rest_least_by n x o
rest_least (negsuc n) x p o = absurd (omega (arith, ints, p))
