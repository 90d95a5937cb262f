-- What each step of a sweep keeps.
use Rattle.std.proofs.Common.{get_or-set_other, get_or-set_same, ◌≡◌, ℕ, suc, ◌+◌, ◌<◌, ◌≤◌, ℤ, pos, ◌+ℤ◌, ◌≤ℤ◌, ◌<ℤ◌, inl, inr, List, length, Some, arith}
use Rattle.std.proofs.Common.{refl, sym, below_more, ◌∙◌, subst}
use Rattle.std.specs.Int.{int_min}
use Rattle.std.proofs.lemmas.Int.{ints, clamps, by_lt_z}
use Rattle.std.proofs.lemmas.Bool.{cases_lt, cases_eq, cases_order}
use lib.Signed.{≤ℤ_refl}
use Rattle.std.proofs.Math.ListN.{set, length-set}
use Rattle.sot_box.specs.Sides.{Side}
use Rattle.sot_lists.specs.Places.{At}
use Rattle.sot_box.specs.Boxes.{IsWithin, IsBefore, lows, highs}
use Rattle.sot_box.specs.Regions.{IsInRegion, Covers, IsGap}
use Rattle.sot_box.specs.Sweep.{HoldsAt, coordinate, IsAlong, AreCorners, IsSlab, IsPassed, IsSwept, IsNarrowed}
use Rattle.sot_box.proofs.Within.{within-width, within-low, within-high, within-from, before-first, before-from, in-region}

-- before the first step
pub swept-start : (region : List (List Side)) (box : List Side) → ((k : ℕ) → k < length box → coordinate (lows box) k ≤ℤ coordinate (highs box) k)
    → length (lows box) ≡ length box → length (highs box) ≡ length box → IsSwept region box (lows box) (highs box)
swept-start region box ordered low_width high_width = record {
  corners = record {
    at_width = low_width;
    reach_width = high_width;
    low = λ k lt. omega (arith, ints);
    ordered = ordered;
    high = λ k lt. omega (arith, ints);
  };
  passed = λ k lt t w along less.
      let h : coordinate (lows box) k ≤ℤ coordinate t k = within-low box t k w lt in
      absurd (omega (arith, ints));
}

-- a shorter reach leaves what was passed
pub narrow-along : (k : ℕ) (box : List Side) (at old new t : List ℤ) → k ≤ length old → length box ≡ length old → IsNarrowed box old new → IsAlong k at new t
    → IsAlong k at old t
narrow-along k box at old new t le e n along j lt =
    let h = along j lt in
    let b : coordinate new j ≤ℤ coordinate old j = n.below j (omega arith) in
    (h.0, omega (arith, ints, h.1))

-- where a box with the corner `at` has narrowed the reach, the corners span a slab of the region
pub narrowed : (region : List (List Side)) (box c : List Side) (at old new : List ℤ)
    → length c ≡ length box → IsSwept region box at old → IsWithin c at → IsNarrowed c old new
    → ((t : List ℤ) → IsWithin c t → IsInRegion region t)
    → IsSwept region box at new × IsSlab region box (length box) at new
narrowed region box c at old new e s w n inside = (
  record {
    corners = record {
      at_width = s.corners.at_width;
      reach_width = omega (arith, n.width, s.corners.reach_width);
      low = s.corners.low;
      ordered = λ k lt. n.above k (omega arith) _ (s.corners.ordered k lt) (within-high c at k w (omega arith));
      high = λ k lt.
          let b : coordinate new k ≤ℤ coordinate old k = n.below k (omega arith) in
          let h : coordinate old k ≤ℤ coordinate (highs box) k = s.corners.high k lt in
          omega (arith, ints);
    };
    passed =
        λ k lt t v along less. s.passed k lt t v (narrow-along k c at old new t (omega (arith, s.corners.reach_width)) (omega (arith, s.corners.reach_width)) n
        along) less;
  },
  λ t v along. inside t (within-from c t (omega (arith, within-width box t v))
      (λ k lt.
      let a = along k (omega arith) in
      let l : coordinate (lows c) k ≤ℤ coordinate at k = within-low c at k w lt in
      omega (arith, ints, a.0))
      (λ k lt.
      let a = along k (omega arith) in
      let h : coordinate new k ≤ℤ coordinate (highs c) k = n.within k lt in
      omega (arith, ints, a.1))),
)

-- a point that no box holds is the gap
pub gap-here : (region : List (List Side)) (box : List Side) (at reach : List ℤ) → IsSwept region box at reach
    → (IsInRegion region at → ⊥) → IsGap region box at
gap-here region box at reach s outside = record {
  inside = within-from box at s.corners.at_width s.corners.low
      (λ k lt.
      let o : coordinate at k ≤ℤ coordinate reach k = s.corners.ordered k lt in
      let h : coordinate reach k ≤ℤ coordinate (highs box) k = s.corners.high k lt in
      omega (arith, ints));
  outside = outside;
  least = λ t w before.
      let f = before-first t at before in
      let e : length t ≡ length box = within-width box t w in
      s.passed f.0 (omega (arith, f.1)) t w
      (λ j lt.
      let same : coordinate t j ≡ coordinate at j = f.3 j lt in
      let o : coordinate at j ≤ℤ coordinate reach j = s.corners.ordered j (omega (arith, f.1)) in
      (omega (arith, ints), omega (arith, ints)))
      f.2;
}

-- new is old with x at place a
pub record IsPut (old : List ℤ) (a : ℕ) (x : ℤ) (new : List ℤ) : Type 0 where
  pub width : length new ≡ length old
  pub here : coordinate new a ≡ x
  pub others : (j : ℕ) → (j ≡ a → ⊥) → coordinate new j ≡ coordinate old j

pub put-set : (xs : List ℤ) (a : ℕ) (x : ℤ) → a < length xs → IsPut xs a x (set xs a x)
put-set xs a x lt = record {
  width = length-set xs a x;
  here = get_or-set_same xs a x (pos 0) lt;
  others = λ j ne. get_or-set_other xs a j x (pos 0) ne;
}

-- the sweep has gone through the axes from k on, and looks for the next axis on which to go on
pub record IsCarried (region : List (List Side)) (box : List Side) (old : List ℤ) (k : ℕ) (at reach : List ℤ) : Type 0 where
  pub corners : AreCorners box at reach
  pub start : (j : ℕ) → k ≤ j → j < length box → coordinate at j ≡ coordinate (lows box) j
  pub passed : (j : ℕ) → j < k → IsPassed region box j at reach
  pub slab : IsSlab region box k at reach
  pub same : (j : ℕ) → j < k → coordinate at j ≡ coordinate old j

pub carry-start : (region : List (List Side)) (box : List Side) (at reach : List ℤ) → IsSwept region box at reach
    → IsSlab region box (length box) at reach → IsCarried region box at (length box) at reach
carry-start region box at reach s slab = record {
  corners = s.corners;
  start = λ j above below. absurd (omega arith);
  passed = s.passed;
  slab = slab;
  same = λ j lt. refl;
}

-- what is along the new corners below a is along the old ones
along-put : (a : ℕ) (at at' reach reach' t : List ℤ) (x y : ℤ) (k : ℕ) → k ≤ a → IsPut at a x at' → IsPut reach a y reach' → IsAlong k at' reach' t
    → IsAlong k at reach t
along-put a at at' reach reach' t x y k le p q along j lt =
    let h = along j lt in
    let ne : j ≡ a → ⊥ = λ e. absurd (omega arith) in
    let e : coordinate at' j ≡ coordinate at j = p.others j ne in
    let f : coordinate reach' j ≡ coordinate reach j = q.others j ne in
    (omega (arith, ints, h.0), omega (arith, ints, h.1))

-- what is passed on axis a, and what the slab holds
pub passed-on : (region : List (List Side)) (box : List Side) (old at reach : List ℤ) (a : ℕ) → a < length box
    → IsCarried region box old (suc a) at reach
    → (t : List ℤ) → IsWithin box t → IsAlong a at reach t → coordinate t a ≤ℤ coordinate reach a → IsInRegion region t
passed-on region box old at reach a lt c t w along h =
    by_lt_z (coordinate t a) (coordinate at a)
    (λ less. c.passed a (omega arith) t w along less)
    (λ more. c.slab t w (along_more a at reach t along more h))
  where
    along_more : (a : ℕ) (at reach t : List ℤ) → IsAlong a at reach t → coordinate at a ≤ℤ coordinate t a → coordinate t a ≤ℤ coordinate reach a
        → IsAlong (suc a) at reach t
    along_more a at reach t along low high j below = elim (cases_lt j a) [
      | inl less ↦ along j less
      | inr more ↦ let e : j ≡ a = omega arith in rw e (low, high)
    ]

pub corners-put : (box : List Side) (at reach at' reach' : List ℤ) (a : ℕ) (x y : ℤ) → a < length box → AreCorners box at reach
    → IsPut at a x at' → IsPut reach a y reach' → coordinate (lows box) a ≤ℤ x → x ≤ℤ y → y ≤ℤ coordinate (highs box) a → AreCorners box at' reach'
corners-put box at reach at' reach' a x y lt c p q low ordered high = record {
  at_width = omega (arith, p.width, c.at_width);
  reach_width = omega (arith, q.width, c.reach_width);
  low = λ j below. elim (cases_eq j a) [
    | inl e ↦ subst (λ (i : ℕ). coordinate (lows box) i ≤ℤ coordinate at' i) (sym e) (subst (λ (z : ℤ). coordinate (lows box) a ≤ℤ z) (sym p.here) low)
    | inr ne ↦ subst (λ (z : ℤ). coordinate (lows box) j ≤ℤ z) (sym (p.others j ne)) (c.low j below)
  ];
  ordered = λ j below. elim (cases_eq j a) [
    | inl e ↦ subst (λ (i : ℕ). coordinate at' i ≤ℤ coordinate reach' i) (sym e) (rw (p.here, q.here) ordered)
    | inr ne ↦ rw (p.others j ne, q.others j ne) (c.ordered j below)
  ];
  high = λ j below. elim (cases_eq j a) [
    | inl e ↦ subst (λ (i : ℕ). coordinate reach' i ≤ℤ coordinate (highs box) i) (sym e) (rw q.here high)
    | inr ne ↦ rw (q.others j ne) (c.high j below)
  ];
}

-- the sides of a box that has corners are in order
ends : (box : List Side) (at reach : List ℤ) (a : ℕ) → a < length box → AreCorners box at reach → coordinate (lows box) a ≤ℤ coordinate (highs box) a
ends box at reach a lt c =
    let l : coordinate (lows box) a ≤ℤ coordinate at a = c.low a lt in
    let o : coordinate at a ≤ℤ coordinate reach a = c.ordered a lt in
    let h : coordinate reach a ≤ℤ coordinate (highs box) a = c.high a lt in
    omega (arith, ints)

-- axis a is through: the sweep goes back to its low end
pub carry-back : (region : List (List Side)) (box : List Side) (old at reach at' reach' : List ℤ) (a : ℕ) → a < length box
    → IsCarried region box old (suc a) at reach
    → coordinate (highs box) a ≤ℤ coordinate reach a
    → IsPut at a (coordinate (lows box) a) at' → IsPut reach a (coordinate (highs box) a) reach'
    → IsCarried region box old a at' reach'
carry-back region box old at reach at' reach' a lt c through p q = record {
  corners = corners-put box at reach at' reach' a _ _ lt c.corners p q (≤ℤ_refl _) (ends box at reach a lt c.corners) (≤ℤ_refl _);
  start = λ j above below. elim (cases_eq j a) [
    | inl e ↦ subst (λ (i : ℕ). coordinate at' i ≡ coordinate (lows box) i) (sym e) p.here
    | inr ne ↦ p.others j ne ∙ c.start j (omega arith) below
  ];
  passed = λ j below t w along less.
      let ne : j ≡ a → ⊥ = λ e. absurd (omega arith) in
      c.passed j (omega arith) t w (along-put a at at' reach reach' t _ _ j (omega arith) p q along) (rw (p.others j ne) at less);
  slab = λ t w along.
      let h : coordinate t a ≤ℤ coordinate (highs box) a = within-high box t a w lt in
      passed-on region box old at reach a lt c t w (along-put a at at' reach reach' t _ _ a (omega arith) p q along) (omega (arith, ints));
  same = λ j below. let ne : j ≡ a → ⊥ = λ e. absurd (omega arith) in p.others j ne ∙ c.same j (omega arith);
}

-- axis a is not through: the sweep goes on there
pub carry-on : (region : List (List Side)) (box : List Side) (old at reach at' reach' : List ℤ) (a : ℕ) → a < length box
    → IsCarried region box old (suc a) at reach
    → coordinate reach a <ℤ coordinate (highs box) a
    → IsPut at a (coordinate reach a +ℤ pos 1) at' → IsPut reach a (coordinate (highs box) a) reach'
    → IsSwept region box at' reach'
carry-on region box old at reach at' reach' a lt c less p q =
    let l : coordinate (lows box) a ≤ℤ coordinate at a = c.corners.low a lt in
    let o : coordinate at a ≤ℤ coordinate reach a = c.corners.ordered a lt in
    record {
      corners = corners-put box at reach at' reach' a _ _ lt c.corners p q (omega (arith, ints)) (omega (arith, ints)) (≤ℤ_refl _);
      passed = λ j below t w along before. elim (cases_order j a) [
        | inl e ↦
            let here : coordinate t a <ℤ coordinate at' a = subst (λ (i : ℕ). coordinate t i <ℤ coordinate at' i) e before in
            let here' : coordinate t a <ℤ (coordinate reach a +ℤ pos 1) = rw p.here at here in
            let along' : IsAlong a at' reach' t = subst (λ (i : ℕ). IsAlong i at' reach' t) e along in
            passed-on region box old at reach a lt c t w (along-put a at at' reach reach' t _ _ a (omega arith) p q along') (omega (arith, ints))
        | inr apart ↦ elim apart [
          | inl under ↦
              let ne : j ≡ a → ⊥ = λ e. absurd (omega arith) in
              c.passed j (omega arith) t w (along-put a at at' reach reach' t _ _ j (omega arith) p q along) (rw (p.others j ne) at before)
          | inr over ↦
              let ne : j ≡ a → ⊥ = λ e. absurd (omega arith) in
              let low : coordinate (lows box) j ≤ℤ coordinate t j = within-low box t j w below in
              let e : coordinate at' j ≡ coordinate (lows box) j = p.others j ne ∙ c.start j (omega arith) below in
              absurd (omega (arith, ints))
        ]
      ];
    }

pub carry-before : (region : List (List Side)) (box : List Side) (old at reach at' : List ℤ) (a : ℕ) → a < length box → length old ≡ length box
    → IsCarried region box old (suc a) at reach
    → IsPut at a (coordinate reach a +ℤ pos 1) at'
    → IsBefore old at'
carry-before region box old at reach at' a lt width c p =
    before-from old at' a (omega (arith, width, p.width, c.corners.at_width)) (omega arith)
    (let o : coordinate at a ≤ℤ coordinate reach a = c.corners.ordered a lt in
    let s : coordinate at a ≡ coordinate old a = c.same a (omega arith) in
    let h : coordinate at' a ≡ coordinate reach a +ℤ pos 1 = p.here in
    omega (arith, ints))
    (λ j below. let ne : j ≡ a → ⊥ = λ e. absurd (omega arith) in sym (p.others j ne ∙ c.same j (omega arith)))

-- all axes are through
pub carry-through : (region : List (List Side)) (box : List Side) (old at reach : List ℤ) → IsCarried region box old 0 at reach → Covers region box
carry-through region box old at reach c t w = c.slab t w (λ j below. absurd (omega arith))

pub put-by : (old new : List ℤ) (a : ℕ) (x y : ℤ) → new ≡ set old a y → y ≡ x → a < length old → IsPut old a x new
put-by old new a x y is e lt = rw (is, e) (put-set old a x lt)

-- the first n coordinates are narrowed
pub record IsNarrowing (box : List Side) (n : ℕ) (old new : List ℤ) : Type 0 where
  pub width : length new ≡ length old
  pub below : (k : ℕ) → k < n → coordinate new k ≤ℤ coordinate old k
  pub within : (k : ℕ) → k < n → coordinate new k ≤ℤ coordinate (highs box) k
  pub above : (k : ℕ) → k < n → (x : ℤ) → x ≤ℤ coordinate old k → x ≤ℤ coordinate (highs box) k → x ≤ℤ coordinate new k
  pub rest : (k : ℕ) → n ≤ k → coordinate new k ≡ coordinate old k

pub narrow-step : (box : List Side) (n : ℕ) (old at new : List ℤ) (x : ℤ) → IsNarrowing box n old at
    → x ≡ int_min (coordinate at n) (coordinate (highs box) n) → IsPut at n x new → IsNarrowing box (n + 1) old new
narrow-step box n old at new x s is p =
    let here : coordinate new n ≡ x = p.here in
    let was : coordinate at n ≡ coordinate old n = s.rest n (omega arith) in
    record {
      width = omega (arith, p.width, s.width);
      below = below_more _ n (λ k lt. rw (p.others k (λ e. absurd (omega arith))) (s.below k lt)) (omega (arith, ints, clamps));
      within = below_more _ n (λ k lt. rw (p.others k (λ e. absurd (omega arith))) (s.within k lt)) (omega (arith, ints, clamps));
      above = below_more _ n (λ k lt. rw (p.others k (λ e. absurd (omega arith))) (s.above k lt)) (λ y l h. omega (arith, ints, clamps));
      rest = λ k le. p.others k (λ e. absurd (omega arith)) ∙ s.rest k (omega arith);
    }

pub corner-within : (box : List Side) (at reach : List ℤ) → AreCorners box at reach → IsWithin box at
corner-within box at reach c = within-from box at c.at_width c.low
    (λ k lt.
    let o : coordinate at k ≤ℤ coordinate reach k = c.ordered k lt in
    let h : coordinate reach k ≤ℤ coordinate (highs box) k = c.high k lt in
    omega (arith, ints))

pub holds-same : (boxes : List (List Side)) (i : ℕ) (t : List ℤ) (b : List Side) → HoldsAt boxes i t → At boxes i b → IsWithin b t
holds-same boxes i t b h e =
    let s : h.0 ≡ b = same-some h.0 b (sym h.1 ∙ e) in
    subst (λ (x : List Side). IsWithin x t) s h.2
  where
    same-some : (x y : List Side) → Some x ≡ Some y → x ≡ y
    same-some x y e = cc

-- one step of the sweep, by a box that holds `at`
pub gap-step : (boxes : List (List Side)) (box by : List Side) (at reach reach' : List ℤ) (i : ℕ) → length by ≡ length box
    → IsSwept boxes box at reach → HoldsAt boxes i at → At boxes i by → IsNarrowed by reach reach'
    → IsSwept boxes box at reach' × IsSlab boxes box (length box) at reach'
gap-step boxes box by at reach reach' i e s h place n =
    narrowed boxes box by at reach reach' e s (holds-same boxes i at by h place) n (λ t w. in-region boxes i t (by, place, w))
