-- What the definitions of gaps and hulls imply.
use Rattle.std.proofs.Common.{◌≡◌, ℕ, suc, ◌<◌, ℤ, ◌≤ℤ◌, ◌⊎◌, inl, inr, List, [], ◌∷◌, length, arith, refl, ap₂}
use Rattle.std.proofs.lemmas.Int.{ints, by_lt_z}
use Rattle.std.proofs.lemmas.Option.{get_or_from_slice_get, slice_get_within}
use Rattle.sot_box.specs.Sides.{Side}
use Rattle.sot_lists.specs.Places.{At}
use Rattle.sot_box.specs.Boxes.{IsWithin, IsBefore, lows, highs}
use Rattle.sot_box.specs.Regions.{IsInRegion, Covers, CoversAll, IsGap, IsFirstGap, IsHull}
use Rattle.sot_box.specs.Sweep.{coordinate}
use Rattle.sot_box.proofs.Within.{within-width, within-low, within-high, within-from, lows-at, highs-at}
use Rattle.sot_box.proofs.Hulls.{some-side}
use Rattle.sot_box.proofs.Equals.{interval_ends}

-- of two points of a box one comes before the other, or they are one
point_order : (box : List Side) (s t : List ℤ) → IsWithin box s → IsWithin box t → IsBefore s t ⊎ (IsBefore t s ⊎ (s ≡ t))
point_order [] [] [] v w = inr (inr refl)
point_order [] (x ∷ xs) t v w = absurd v
point_order [] [] (y ∷ ys) v w = absurd w
point_order (r ∷ rs) [] t v w = absurd v
point_order (r ∷ rs) (x ∷ xs) [] v w = absurd w
point_order (r ∷ rs) (x ∷ xs) (y ∷ ys) v w =
    by_lt_z x y
    (λ less. inl (inl less))
    (λ ge. by_lt_z y x
    (λ less. inr (inl (inl less)))
    (λ le.
    let same : x ≡ y = omega (arith, ints) in
    let back : y ≡ x = omega (arith, ints) in
    elim (point_order rs xs ys v.2 w.2) [
      | inl before ↦ inl (inr (same, before))
      | inr other ↦ elim other [
        | inl after ↦ inr (inl (inr (back, after)))
        | inr equal ↦ inr (inr (ap₂ (λ z zs. z ∷ zs) same equal))
      ]
    ]))

-- a region has at most one gap in a box
pub gap_unique : (region : List (List Side)) (box : List Side) (s t : List ℤ) → IsGap region box s → IsGap region box t → s ≡ t
gap_unique region box s t g h = elim (point_order box s t g.inside h.inside) [
  | inl before ↦ absurd (g.outside (h.least s g.inside before))
  | inr other ↦ elim other [
    | inl after ↦ absurd (h.outside (g.least t h.inside after))
    | inr same ↦ same
  ]
]

-- and none in a box that it covers
pub gap_uncovered : (region : List (List Side)) (box : List Side) (s : List ℤ) → IsGap region box s → Covers region box → ⊥
gap_uncovered region box s g c = g.outside (c s g.inside)

-- where a region covers each of these boxes there is no first gap
pub first_gap_uncovered : (boxes region : List (List Side)) (s : List ℤ) → IsFirstGap boxes region s → CoversAll boxes region → ⊥
first_gap_uncovered [] region s g c = g
first_gap_uncovered (b ∷ bs) region s g c = elim g [
  | inl here ↦ gap_uncovered region b s here c.0
  | inr later ↦ first_gap_uncovered bs region s later.1 c.1
]

-- there is one first gap
pub first_gap_unique : (boxes region : List (List Side)) (s t : List ℤ) → IsFirstGap boxes region s → IsFirstGap boxes region t → s ≡ t
first_gap_unique [] region s t g h = absurd g
first_gap_unique (b ∷ bs) region s t g h = elim g [
  | inl here ↦ elim h [
    | inl there ↦ gap_unique region b s t here there
    | inr later ↦ absurd (gap_uncovered region b s here later.0)
  ]
  | inr later ↦ elim h [
    | inl there ↦ absurd (gap_uncovered region b t there later.0)
    | inr last ↦ first_gap_unique bs region s t later.1 last.1
  ]
]

-- a point that is met on axis k lies above the low end there
above : (b : List Side) (s : List ℤ) (k : ℕ) (x : ℤ) → IsWithin b s → k < length b → At s k x → coordinate (lows b) k ≤ℤ x
above b s k x w lt at =
    let low : coordinate (lows b) k ≤ℤ coordinate s k = within-low b s k w lt in
    let e : coordinate s k ≡ x = get_or_from_slice_get s k x _ at in
    omega (arith, ints)

below : (b : List Side) (s : List ℤ) (k : ℕ) (x : ℤ) → IsWithin b s → k < length b → At s k x → x ≤ℤ coordinate (highs b) k
below b s k x w lt at =
    let high : coordinate s k ≤ℤ coordinate (highs b) k = within-high b s k w lt in
    let e : coordinate s k ≡ x = get_or_from_slice_get s k x _ at in
    omega (arith, ints)

-- a box that holds each point of a region holds its hull
pub hull_least : (region : List (List Side)) (hull b : List Side) → IsHull region hull
    → ((s : List ℤ) → IsInRegion region s → IsWithin b s) → (s : List ℤ) → IsWithin hull s → IsWithin b s
hull_least region hull b h around s w =
    let mine : length s ≡ length hull = within-width hull s w in
    let theirs : length h.has_point.0 ≡ length b = within-width b h.has_point.0 (around h.has_point.0 h.has_point.1) in
    let same : length h.has_point.0 ≡ length hull = within-width hull h.has_point.0 (h.holds h.has_point.0 h.has_point.1) in
    within-from b s (omega arith)
    (λ k lt.
    let r = some-side hull k (omega arith) in
    let met = h.low k r.0 r.1 in
    let end : coordinate (lows hull) k ≡ r.0.lo = lows-at hull k r.0 r.1 in
    let low : coordinate (lows hull) k ≤ℤ coordinate s k = within-low hull s k w (omega arith) in
    let inside : coordinate (lows b) k ≤ℤ r.0.lo = above b met.0 k r.0.lo (around met.0 met.1) lt met.2 in
    omega (arith, ints))
    (λ k lt.
    let r = some-side hull k (omega arith) in
    let met = h.high k r.0 r.1 in
    let end : coordinate (highs hull) k ≡ r.0.hi = highs-at hull k r.0 r.1 in
    let high : coordinate s k ≤ℤ coordinate (highs hull) k = within-high hull s k w (omega arith) in
    let inside : r.0.hi ≤ℤ coordinate (highs b) k = below b met.0 k r.0.hi (around met.0 met.1) lt met.2 in
    omega (arith, ints))

-- lists of intervals of one length that agree at each place
same_sides : (a b : List Side) → length a ≡ length b → ((k : ℕ) (r t : Side) → At a k r → At b k t → r ≡ t) → a ≡ b
same_sides [] [] e h = refl
same_sides (r ∷ rs) (t ∷ ts) e h = ap₂ (λ x xs. x ∷ xs) (h 0 r t refl refl) (same_sides rs ts (omega arith) (λ k. h (suc k)))
same_sides [] (t ∷ ts) e h = absurd (omega arith)
same_sides (r ∷ rs) [] e h = absurd (omega arith)

-- a region has at most one hull
pub hull_unique : (region : List (List Side)) (a b : List Side) → IsHull region a → IsHull region b → a ≡ b
hull_unique region a b g h =
    let mine : length g.has_point.0 ≡ length a = within-width a g.has_point.0 (g.holds g.has_point.0 g.has_point.1) in
    let theirs : length g.has_point.0 ≡ length b = within-width b g.has_point.0 (h.holds g.has_point.0 g.has_point.1) in
    same_sides a b (omega arith)
    (λ k r t at there.
    let in_a : k < length a = slice_get_within a k r at in
    let al = g.low k r at in
    let bl = h.low k t there in
    let ah = g.high k r at in
    let bh = h.high k t there in
    let e0 : coordinate (lows a) k ≡ r.lo = lows-at a k r at in
    let e1 : coordinate (lows b) k ≡ t.lo = lows-at b k t there in
    let e2 : coordinate (highs a) k ≡ r.hi = highs-at a k r at in
    let e3 : coordinate (highs b) k ≡ t.hi = highs-at b k t there in
    let f0 : coordinate (lows b) k ≤ℤ r.lo = above b al.0 k r.lo (h.holds al.0 al.1) (omega arith) al.2 in
    let f1 : coordinate (lows a) k ≤ℤ t.lo = above a bl.0 k t.lo (g.holds bl.0 bl.1) in_a bl.2 in
    let f2 : r.hi ≤ℤ coordinate (highs b) k = below b ah.0 k r.hi (h.holds ah.0 ah.1) (omega arith) ah.2 in
    let f3 : t.hi ≤ℤ coordinate (highs a) k = below a bh.0 k t.hi (g.holds bh.0 bh.1) in_a bh.2 in
    interval_ends r t (omega (arith, ints)) (omega (arith, ints)))

-- a region without a box has no hull
pub hull_none : (b : List Side) → IsHull [] b → ⊥
hull_none b h = h.has_point.1
