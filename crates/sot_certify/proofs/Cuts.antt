-- The halves of a box.
use Rattle.std.proofs.Common.{◌≡◌, ℕ, zero, suc, ◌⊎◌, inl, inr, ⊎_elim, ℤ, pos, ◌+ℤ◌, ◌≤ℤ◌, List, [], ◌∷◌, refl, sym, ap, ap₂, ◌∙◌, subst, arith}
use Rattle.std.specs.Prelude.{slice_set}
use Rattle.std.proofs.lemmas.Int.{ints, by_lt_z}
use Rattle.std.proofs.lemmas.Option.{same_Some, none-some}
use Rattle.sot_box.specs.Sides.{Side}
use Rattle.sot_box.specs.Boxes.{IsWithin, lows, point_box}
use Rattle.sot_lists.specs.Places.{At}
use Rattle.sot_lists.proofs.Places.{at_same}
use Rattle.sot_lists.proofs.Numbers.{by_order}
use Rattle.sot_certify.specs.Cuts.{IsOnePoint, IsWidest, IsMiddle, AreHalves}

-- a box of one point has no halves
pub point_uncut : (box low high : List Side) → IsOnePoint box → AreHalves box low high → ⊥
point_uncut box low high one h = (let e = one h.axis h.side h.widest.is in let lt = h.apart in omega (arith, ints))

same_axis : (box : List Side) (j k : ℕ) (r s : Side) → IsWidest box j r → IsWidest box k s → j ≡ k
same_axis box j k r s h g =
    by_order j k
    (λ less. let a = g.first j r less h.is in let b = h.widest k s g.is in absurd (omega (arith, ints)))
    (λ more. let a = h.first k s more g.is in let b = g.widest j r h.is in absurd (omega (arith, ints)))
    (λ same. same)

same_middle : (r : Side) (m n : ℤ) → IsMiddle r m → IsMiddle r n → m ≡ n
same_middle r m n h g = (let a = h.at_most in let b = h.at_least in let c = g.at_most in let d = g.at_least in omega (arith, ints))

module _ (box low high low' high' : List Side) (h : AreHalves box low high) (g : AreHalves box low' high') where
  axes : h.axis ≡ g.axis
  axes = same_axis box h.axis g.axis h.side g.side h.widest g.widest

  sides : h.side ≡ g.side
  sides = at_same box g.axis h.side g.side (subst (λ k. At box k h.side) axes h.widest.is) g.widest.is

  middles : h.middle ≡ g.middle
  middles = same_middle g.side h.middle g.middle (subst (λ (r : Side). IsMiddle r h.middle) sides h.half) g.half

  pub same_low : low ≡ low'
  same_low =
      h.low_is ∙ ap (λ k. slice_set box k (record { lo = h.side.lo; hi = h.middle })) axes
      ∙ ap (λ (r : Side). slice_set box g.axis (record { lo = r.lo; hi = h.middle })) sides
      ∙ ap (λ m. slice_set box g.axis (record { lo = g.side.lo; hi = m })) middles ∙ sym g.low_is

  pub same_high : high ≡ high'
  same_high =
      h.high_is ∙ ap (λ k. slice_set box k (record { lo = h.middle +ℤ pos 1; hi = h.side.hi })) axes
      ∙ ap (λ (r : Side). slice_set box g.axis (record { lo = h.middle +ℤ pos 1; hi = r.hi })) sides
      ∙ ap (λ m. slice_set box g.axis (record { lo = m +ℤ pos 1; hi = g.side.hi })) middles ∙ sym g.high_is

-- a point of the box is in one of two parts
pub split : (box : List Side) (k : ℕ) (r : Side) (m : ℤ) (s : List ℤ) → At box k r → IsWithin box s
    → IsWithin (slice_set box k (record { lo = r.lo; hi = m })) s ⊎ IsWithin (slice_set box k (record { lo = m +ℤ pos 1; hi = r.hi })) s
split [] k r m s at w = absurd (none-some r at)
split (x ∷ xs) k r m [] at w = absurd w
split (x ∷ xs) zero r m (z ∷ zs) at w =
    let e : x ≡ r = same_Some x r at in
    let lo : r.lo ≤ℤ z = subst (λ (q : Side). q.lo ≤ℤ z) e w.0 in
    let hi : z ≤ℤ r.hi = subst (λ (q : Side). z ≤ℤ q.hi) e w.1 in
    by_lt_z m z (λ less. inr ((let l : (m +ℤ pos 1) ≤ℤ z = omega (arith, ints) in l), hi, w.2)) (λ le. inl (lo, le, w.2))
split (x ∷ xs) (suc k) r m (z ∷ zs) at w =
    ⊎_elim (λ a. inl (w.0, w.1, a)) (λ b. inr (w.0, w.1, b)) (split xs k r m zs at w.2)

-- a part of the box lies in it
pub part : (box : List Side) (k : ℕ) (r q : Side) (s : List ℤ) → At box k r → r.lo ≤ℤ q.lo → q.hi ≤ℤ r.hi → IsWithin (slice_set box k q) s → IsWithin box s
part [] k r q s at lo hi w = absurd (none-some r at)
part (x ∷ xs) zero r q [] at lo hi w = absurd w
part (x ∷ xs) (suc k) r q [] at lo hi w = absurd w
part (x ∷ xs) zero r q (z ∷ zs) at lo hi w =
    let e : r ≡ x = same_Some r x (sym at) in
    let below : r.lo ≤ℤ z = (let u = w.0 in omega (arith, ints)) in
    let above : z ≤ℤ r.hi = (let u = w.1 in omega (arith, ints)) in
    (subst (λ (q : Side). q.lo ≤ℤ z) e below, subst (λ (q : Side). z ≤ℤ q.hi) e above, w.2)
part (x ∷ xs) (suc k) r q (z ∷ zs) at lo hi w = (w.0, w.1, part xs k r q zs at lo hi w.2)

module _ (box low high : List Side) (h : AreHalves box low high) where
  pub in_halves : (s : List ℤ) → IsWithin box s → IsWithin low s ⊎ IsWithin high s
  in_halves s w =
      ⊎_elim (λ a. inl (subst (λ b. IsWithin b s) (sym h.low_is) a)) (λ b. inr (subst (λ q. IsWithin q s) (sym h.high_is) b))
      (split box h.axis h.side h.middle s h.widest.is w)

  pub low_inside : (s : List ℤ) → IsWithin low s → IsWithin box s
  low_inside s w =
      let a = h.half.at_most in
      let lt = h.apart in
      part box h.axis h.side (record { lo = h.side.lo; hi = h.middle }) s h.widest.is (omega (arith, ints)) (omega (arith, ints))
      (subst (λ b. IsWithin b s) h.low_is w)

  pub high_inside : (s : List ℤ) → IsWithin high s → IsWithin box s
  high_inside s w =
      let a = h.half.at_least in
      let lt = h.apart in
      part box h.axis h.side (record { lo = h.middle +ℤ pos 1; hi = h.side.hi }) s h.widest.is (omega (arith, ints)) (omega (arith, ints))
      (subst (λ b. IsWithin b s) h.high_is w)

-- the box of one point is the box of its corner
tail : (r : Side) (rs : List Side) → IsOnePoint (r ∷ rs) → IsOnePoint rs
tail r rs one i s at = one (suc i) s at

pub point_is : (box : List Side) → IsOnePoint box → box ≡ point_box (lows box)
point_is [] one = refl
point_is (r ∷ rs) one = ap₂ (λ x xs. x ∷ xs) (side_is r (one 0 r refl)) (point_is rs (tail r rs one))
  where
    side_is : (r : Side) → r.lo ≡ r.hi → r ≡ record { lo = r.lo; hi = r.lo }
    side_is r e i = record { lo = r.lo; hi = sym e i }

pub point_inside : (box : List Side) → IsOnePoint box → IsWithin box (lows box)
point_inside [] one = tt
point_inside (r ∷ rs) one = (let e = one 0 r refl in (omega (arith, ints), omega (arith, ints), point_inside rs (tail r rs one)))
