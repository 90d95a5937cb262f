-- How many cuts boxes can still ask for: a number that falls with each box that is taken.
use Rattle.std.proofs.Common.{ℕ, zero, suc, ◌+◌, ◌<◌, ◌≤◌, ℤ, pos, negsuc, ◌+ℤ◌, ◌-ℤ◌, ◌≤ℤ◌, ◌<ℤ◌, List, [], ◌∷◌, sym, ap, subst, arith}
use Rattle.std.specs.Prelude.{slice_set}
use Rattle.std.proofs.lemmas.Int.{ints}
use Rattle.std.proofs.lemmas.Option.{same_Some, none-some}
use Rattle.sot_box.specs.Sides.{Side}
use Rattle.sot_lists.specs.Places.{At}
use Rattle.sot_certify.specs.Cuts.{AreHalves, extent}

-- a number that is not below 0, and else 0
gap_of : ℤ → ℕ
gap_of (pos n) = n
gap_of (negsuc n) = 0

falls : (x y : ℤ) → x <ℤ y → pos 0 ≤ℤ x → gap_of x < gap_of y
unfolding gap_of
falls (pos a) (pos b) lt le = omega (arith, ints, lt)
falls (pos a) (negsuc b) lt le = absurd (omega (arith, ints, lt))
falls (negsuc a) y lt le = absurd (omega (arith, ints, le))

-- the sum of the extents of a box
spread : List Side → ℕ
spread [] = 0
spread (r ∷ rs) = gap_of (extent r) + spread rs

spread_set : (box : List Side) (k : ℕ) (r q : Side) → At box k r → gap_of (extent q) < gap_of (extent r) → spread (slice_set box k q) < spread box
unfolding spread
spread_set [] k r q at lt = absurd (none-some r at)
spread_set (x ∷ xs) zero r q at lt = (let e = ap (λ (s : Side). gap_of (extent s)) (same_Some x r at) in omega (arith, lt, e))
spread_set (x ∷ xs) (suc k) r q at lt = (let h = spread_set xs k r q at lt in omega (arith, h))

-- the number of boxes that n cuts one in another can make, those that were cut too
tree : ℕ → ℕ
tree zero = 1
tree (suc n) = 1 + (tree n + tree n)

grows : (m n : ℕ) → m ≤ n → tree m ≤ tree n
unfolding tree
grows zero zero le = omega arith
grows zero (suc n) le = (let h = grows zero n (omega arith) in omega (arith, h))
grows (suc m) zero le = absurd (omega (arith, le))
grows (suc m) (suc n) le = (let h = grows m n (omega (arith, le)) in omega (arith, h))

some_tree : (n : ℕ) → 1 ≤ tree n
unfolding tree
some_tree zero = omega arith
some_tree (suc n) = omega arith

two_trees : (a b n : ℕ) → a < n → b < n → tree a + tree b < tree n
unfolding tree
two_trees a b zero lt lt' = absurd (omega (arith, lt))
two_trees a b (suc n) lt lt' = (let h = grows a n (omega (arith, lt)) in let k = grows b n (omega (arith, lt')) in omega (arith, h, k))

pub effort : List (List Side) → ℕ
effort [] = 0
effort (b ∷ bs) = effort bs + tree (spread b)

pub effort_less : (open' : List (List Side)) (box : List Side) → effort open' < effort (box ∷ open')
unfolding effort
effort_less open' box = (let h = some_tree (spread box) in omega (arith, h))

module _ (box low high : List Side) (h : AreHalves box low high) where
  low_falls : spread low < spread box
  low_falls =
      let a = h.half.at_most in
      let b = h.half.at_least in
      let lt = h.apart in
      subst (λ l. spread l < spread box) (sym h.low_is)
      (spread_set box h.axis h.side (record { lo = h.side.lo; hi = h.middle }) h.widest.is
      (falls (h.middle -ℤ h.side.lo) (extent h.side) (omega (arith, ints, a, b, lt)) (omega (arith, ints, a, b, lt))))

  high_falls : spread high < spread box
  high_falls =
      let a = h.half.at_most in
      let b = h.half.at_least in
      let lt = h.apart in
      subst (λ l. spread l < spread box) (sym h.high_is)
      (spread_set box h.axis h.side (record { lo = h.middle +ℤ pos 1; hi = h.side.hi }) h.widest.is
      (falls (h.side.hi -ℤ (h.middle +ℤ pos 1)) (extent h.side) (omega (arith, ints, a, b, lt)) (omega (arith, ints, a, b, lt))))

  pub effort_falls : (open' : List (List Side)) → effort (low ∷ high ∷ open') < effort (box ∷ open')
  unfolding effort
  effort_falls open' = (let t = two_trees (spread low) (spread high) (spread box) low_falls high_falls in omega (arith, t))
