-- The least box round boxes.
use Rattle.std.proofs.Common.{◌≡◌, ℕ, zero, suc, ◌+◌, ◌<◌, ◌≤◌, ℤ, pos, ◌≤ℤ◌, ◌⊎◌, inl, inr, List, [], ◌∷◌, ◌++◌, length, take, map, arith, refl, sym, ap, ◌∙◌}
use Rattle.std.proofs.Common.{subst, below_more}
use Rattle.std.specs.Int.{int_min, int_max}
use Rattle.std.proofs.lemmas.Int.{ints, clamps, by_lt_z}
use Rattle.std.proofs.Math.ListN.{set}
use Rattle.std.proofs.lemmas.Option.{slice_get_within, get_or_from_slice_get, slice_get-get_or}
use Rattle.std.proofs.lemmas.List.{take_more, take_all}
use Rattle.sot_box.specs.Sides.{Side, AreOrdered}
use Rattle.sot_lists.specs.Places.{At}
use Rattle.sot_box.specs.Boxes.{IsWithin, lows, highs}
use Rattle.sot_box.specs.Regions.{IsInRegion, IsHull}
use Rattle.sot_box.specs.Sweep.{coordinate}
use Rattle.sot_box.specs.Widened.{IsWidened}
use Rattle.sot_box.proofs.Within.{within-width, within-low, within-high, within-from, in-order, lows-at, highs-at, lows-width, highs-width}
use Rattle.sot_box.proofs.Sweeps.{IsPut, put-set}
use Rattle.sot_box.proofs.Ranges.{lows_within}

map-set : (f : Side → ℤ) (xs : List Side) (i : ℕ) (r : Side) → map f (set xs i r) ≡ set (map f xs) i (f r)
map-set f [] i r = refl
map-set f (x ∷ xs) zero r = refl
map-set f (x ∷ xs) (suc i) r = ap (λ ys. f x ∷ ys) (map-set f xs i r)

pub put-low : (old new : List Side) (i : ℕ) (r : Side) → new ≡ set old i r → i < length old → IsPut (lows old) i r.lo (lows new)
put-low old new i r e lt = rw (e, map-set (λ (s : Side). s.lo) old i r) (put-set (lows old) i r.lo (omega (arith, lows-width old)))

pub put-high : (old new : List Side) (i : ℕ) (r : Side) → new ≡ set old i r → i < length old → IsPut (highs old) i r.hi (highs new)
put-high old new i r e lt = rw (e, map-set (λ (s : Side). s.hi) old i r) (put-set (highs old) i r.hi (omega (arith, highs-width old)))

-- the first n sides are widened
pub record IsWidening (by : List Side) (n : ℕ) (old new : List Side) : Type 0 where
  pub width : length new ≡ length old
  pub low : (k : ℕ) → k < n → coordinate (lows new) k ≡ int_min (coordinate (lows old) k) (coordinate (lows by) k)
  pub high : (k : ℕ) → k < n → coordinate (highs new) k ≡ int_max (coordinate (highs old) k) (coordinate (highs by) k)
  pub rest_low : (k : ℕ) → n ≤ k → coordinate (lows new) k ≡ coordinate (lows old) k
  pub rest_high : (k : ℕ) → n ≤ k → coordinate (highs new) k ≡ coordinate (highs old) k

pub widen-step : (by : List Side) (n : ℕ) (old at new : List Side) (x y : ℤ) → IsWidening by n old at → length new ≡ length at
    → x ≡ int_min (coordinate (lows at) n) (coordinate (lows by) n) → y ≡ int_max (coordinate (highs at) n) (coordinate (highs by) n)
    → IsPut (lows at) n x (lows new) → IsPut (highs at) n y (highs new) → IsWidening by (n + 1) old new
widen-step by n old at new x y s width ex ey p q = record {
  width = width ∙ s.width;
  low = below_more _ n (λ k lt. p.others k (λ e. absurd (omega arith)) ∙ s.low k lt)
      (p.here ∙ ex ∙ ap (λ z. int_min z (coordinate (lows by) n)) (s.rest_low n (omega arith)));
  high = below_more _ n (λ k lt. q.others k (λ e. absurd (omega arith)) ∙ s.high k lt)
      (q.here ∙ ey ∙ ap (λ z. int_max z (coordinate (highs by) n)) (s.rest_high n (omega arith)));
  rest_low = λ k le. p.others k (λ e. absurd (omega arith)) ∙ s.rest_low k (omega arith);
  rest_high = λ k le. q.others k (λ e. absurd (omega arith)) ∙ s.rest_high k (omega arith);
}

pub some-side : (b : List Side) (k : ℕ) → k < length b → (r : Side) × At b k r
some-side [] k lt = absurd (omega arith)
some-side (r ∷ rs) zero lt = (r, refl)
some-side (r ∷ rs) (suc k) lt = some-side rs k (omega arith)

coordinate-at : (s : List ℤ) (k : ℕ) → k < length s → At s k (coordinate s k)
coordinate-at s k lt = slice_get-get_or s k (pos 0) lt

high-within : (b : List Side) → AreOrdered b → IsWithin b (highs b)
high-within b o = within-from b (highs b) (highs-width b) (in-order b o) (λ k lt. omega (arith, ints))

in-last : (bs : List (List Side)) (b : List Side) (s : List ℤ) → IsWithin b s → IsInRegion (bs ++ b ∷ []) s
in-last [] b s w = inl w
in-last (x ∷ xs) b s w = inr (in-last xs b s w)

in-front : (bs : List (List Side)) (b : List Side) (s : List ℤ) → IsInRegion bs s → IsInRegion (bs ++ b ∷ []) s
in-front [] b s h = absurd h
in-front (x ∷ xs) b s h = elim h [
  | inl w ↦ inl w
  | inr r ↦ inr (in-front xs b s r)
]

of-both : (bs : List (List Side)) (b : List Side) (s : List ℤ) → IsInRegion (bs ++ b ∷ []) s → IsInRegion bs s ⊎ IsWithin b s
of-both [] b s h = elim h [
  | inl w ↦ inr w
  | inr r ↦ absurd r
]
of-both (x ∷ xs) b s h = elim h [
  | inl w ↦ inl (inl w)
  | inr r ↦ elim (of-both xs b s r) [
    | inl i ↦ inl (inr i)
    | inr w ↦ inr w
  ]
]

at-value : (s : List ℤ) (i : ℕ) (x y : ℤ) → x ≡ y → At s i x → At s i y
at-value s i x y e h = subst (λ (z : ℤ). At s i z) e h

pub hull-one : (b : List Side) → AreOrdered b → IsHull (b ∷ []) b
hull-one b o = record {
  has_point = (lows b, inl (lows_within b o));
  holds = λ s h. elim h [
    | inl w ↦ w
    | inr r ↦ absurd r
  ];
  low =
      λ i r e. (
        lows b,
        inl (lows_within b o),
        at-value (lows b) i _ _ (lows-at b i r e)
            (coordinate-at (lows b) i (omega (arith, lows-width b, slice_get_within b i r e))),
      );
  high =
      λ i r e. (
        highs b,
        inl (high-within b o),
        at-value (highs b) i _ _ (highs-at b i r e)
            (coordinate-at (highs b) i (omega (arith, highs-width b, slice_get_within b i r e))),
      );
}

wider : (h h' b : List Side) (s : List ℤ) → length b ≡ length h → IsWidened b h h' → IsWithin h s → IsWithin h' s
wider h h' b s e w v = within-from h' s (omega (arith, w.width, within-width h s v))
    (λ k lt.
    let l : coordinate (lows h) k ≤ℤ coordinate s k = within-low h s k v (omega (arith, w.width)) in
    let m = w.low k (omega (arith, w.width)) in
    omega (arith, ints, clamps))
    (λ k lt.
    let l : coordinate s k ≤ℤ coordinate (highs h) k = within-high h s k v (omega (arith, w.width)) in
    let m = w.high k (omega (arith, w.width)) in
    omega (arith, ints, clamps))

wider-other : (h h' b : List Side) (s : List ℤ) → length b ≡ length h → IsWidened b h h' → IsWithin b s → IsWithin h' s
wider-other h h' b s e w v = within-from h' s (omega (arith, w.width, within-width b s v))
    (λ k lt.
    let l : coordinate (lows b) k ≤ℤ coordinate s k = within-low b s k v (omega (arith, w.width)) in
    let m = w.low k (omega (arith, w.width)) in
    omega (arith, ints, clamps))
    (λ k lt.
    let l : coordinate s k ≤ℤ coordinate (highs b) k = within-high b s k v (omega (arith, w.width)) in
    let m = w.high k (omega (arith, w.width)) in
    omega (arith, ints, clamps))

min-cases : (m x y : ℤ) → m ≡ int_min x y → (m ≡ x) ⊎ (m ≡ y)
min-cases m x y e = by_lt_z x y (λ lt. inl (omega (arith, ints, clamps))) (λ ge. inr (omega (arith, ints, clamps)))

max-cases : (m x y : ℤ) → m ≡ int_max x y → (m ≡ x) ⊎ (m ≡ y)
max-cases m x y e = by_lt_z x y (λ lt. inr (omega (arith, ints, clamps))) (λ ge. inl (omega (arith, ints, clamps)))

pub hull-step : (bs : List (List Side)) (h h' b : List Side) → AreOrdered b → length b ≡ length h → IsHull bs h → IsWidened b h h' → IsHull (bs ++ b ∷ []) h'
hull-step bs h h' b o e u w = record {
  has_point = (u.has_point.0, in-front bs b u.has_point.0 u.has_point.1);
  holds = λ s i. elim (of-both bs b s i) [
    | inl r ↦ wider h h' b s e w (u.holds s r)
    | inr v ↦ wider-other h h' b s e w v
  ];
  low = λ i r at.
      let lt : i < length b = omega (arith, w.width, slice_get_within h' i r at) in
      let q = some-side h i (omega arith) in
      elim (min-cases (coordinate (lows h') i) (coordinate (lows h) i) (coordinate (lows b) i) (w.low i lt)) [
        | inl old ↦
            let p = u.low i q.0 q.1 in
            (p.0, in-front bs b p.0 p.1, at-value p.0 i _ _ (sym (lows-at h i q.0 q.1) ∙ sym old ∙ lows-at h' i r at) p.2)
        | inr new ↦ (
          lows b,
          in-last bs b (lows b) (lows_within b o),
          at-value (lows b) i _ _ (sym new ∙ lows-at h' i r at) (coordinate-at (lows b) i (omega (arith, lows-width b))),
        )
      ];
  high = λ i r at.
      let lt : i < length b = omega (arith, w.width, slice_get_within h' i r at) in
      let q = some-side h i (omega arith) in
      elim (max-cases (coordinate (highs h') i) (coordinate (highs h) i) (coordinate (highs b) i) (w.high i lt)) [
        | inl old ↦
            let p = u.high i q.0 q.1 in
            (p.0, in-front bs b p.0 p.1, at-value p.0 i _ _ (sym (highs-at h i q.0 q.1) ∙ sym old ∙ highs-at h' i r at) p.2)
        | inr new ↦ (
          highs b,
          in-last bs b (highs b) (high-within b o),
          at-value (highs b) i _ _ (sym new ∙ highs-at h' i r at) (coordinate-at (highs b) i (omega (arith, highs-width b))),
        )
      ];
}

take-one : (bs : List (List Side)) (b : List Side) → At bs 0 b → take 1 bs ≡ b ∷ []
take-one [] b e = absurd (cc)
take-one (x ∷ xs) b e = let s : x ≡ b = cc in rw s refl

pub hull-start : (bs : List (List Side)) (b : List Side) → AreOrdered b → At bs 0 b → IsHull (take 1 bs) b
hull-start bs b o e = subst (λ (xs : List (List Side)). IsHull xs b) (sym (take-one bs b e)) (hull-one b o)

take-step : (bs : List (List Side)) (i : ℕ) (b : List Side) → At bs i b → take (i + 1) bs ≡ take i bs ++ b ∷ []
take-step bs i b e = take_more bs i b (slice_get_within bs i b e) ∙ ap (λ x. take i bs ++ x ∷ []) (get_or_from_slice_get bs i b b e)

pub hull-more : (bs : List (List Side)) (i : ℕ) (h h' b : List Side) → AreOrdered b → At bs i b → length b ≡ length h → IsHull (take i bs) h → IsWidened b h h'
    → IsHull (take (i + 1) bs) h'
hull-more bs i h h' b o at e u w = subst (λ (xs : List (List Side)). IsHull xs h') (sym (take-step bs i b at)) (hull-step (take i bs) h h' b o e u w)

pub hull-all : (bs : List (List Side)) (i : ℕ) (h : List Side) → length bs ≤ i → IsHull (take i bs) h → IsHull bs h
hull-all bs i h le u = subst (λ (xs : List (List Side)). IsHull xs h) (take_all i bs le) u
