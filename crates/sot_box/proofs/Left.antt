-- A number that falls as a point goes on through a box.
use Rattle.std.proofs.Common.{◌≡◌, ℕ, ◌+◌, ◌-◌, ◌*◌, ◌<◌, ◌≤◌, ℤ, ◌≤ℤ◌, inl, inr, List, [], ◌∷◌, arith, ap}
use Rattle.std.proofs.lemmas.Int.{ints}
use borrow.Author.Differences.{up, down}
use Rattle.sot_box.specs.Sides.{Side}
use Rattle.sot_box.specs.Boxes.{IsWithin, IsBefore}

-- how far b is above a
abbrev pub rise : ℤ → ℤ → ℕ
rise a b = (up b + down a) - (up a + down b)

abbrev pub size : List Side → ℕ
size [] = 1
size (r ∷ rs) = (rise r.lo r.hi + 1) * size rs

abbrev pub left : List Side → List ℤ → ℕ
left [] xs = 0
left (r ∷ rs) [] = 0
left (r ∷ rs) (x ∷ xs) = rise x r.hi * size rs + left rs xs

scaled : (m n s : ℕ) → m ≤ n → m * s ≤ n * s
scaled m n s h = grind arith

left-below : (b : List Side) (s : List ℤ) → IsWithin b s → left b s < size b
left-below [] [] w = omega arith
left-below [] (x ∷ xs) w = absurd w
left-below (r ∷ rs) [] w = absurd w
left-below (r ∷ rs) (x ∷ xs) w =
    let rest : left rs xs < size rs = left-below rs xs w.2 in
    let low : r.lo ≤ℤ x = w.0 in
    let high : x ≤ℤ r.hi = w.1 in
    let h : rise x r.hi ≤ rise r.lo r.hi = omega (arith, ints) in
    omega (arith, rest, scaled _ _ (size rs) h)

pub left-falls : (b : List Side) (s t : List ℤ) → IsWithin b s → IsWithin b t → IsBefore s t → left b t < left b s
left-falls [] [] t v w h = absurd h
left-falls [] (x ∷ xs) t v w h = absurd v
left-falls (r ∷ rs) [] t v w h = absurd h
left-falls (r ∷ rs) (x ∷ xs) [] v w h = absurd h
left-falls (r ∷ rs) (x ∷ xs) (y ∷ ys) v w h = elim h [
  | inl lt ↦
      let rest : left rs ys < size rs = left-below rs ys w.2 in
      let high : y ≤ℤ r.hi = w.1 in
      let step : rise y r.hi + 1 ≤ rise x r.hi = omega (arith, ints) in
      omega (arith, rest, scaled _ _ (size rs) step)
  | inr same ↦
      let rest : left rs ys < left rs xs = left-falls rs xs ys v.2 w.2 same.1 in
      let e : x ≡ y = same.0 in
      omega (arith, rest, ap (λ z. rise z r.hi * size rs) e)
]
