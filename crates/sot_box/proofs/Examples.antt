-- Facts on points, boxes and regions that were worked out by hand.
use Rattle.std.proofs.Common.{◌≡◌, ℕ, zero, suc, ℤ, pos, negsuc, ◌≤ℤ◌, ◌<ℤ◌, inl, inr, List, [], ◌∷◌, Option, Some, None, arith, refl, ap}
use Rattle.std.proofs.lemmas.Int.{ints, by_lt_z}
use Rattle.sot_box.specs.Sides.{Side}
use Rattle.sot_lists.specs.Places.{At}
use Rattle.sot_box.specs.Boxes.{IsWithin, IsBefore, lows, highs, point_box}
use Rattle.sot_box.specs.Regions.{IsInRegion, Covers, IsGap, IsFirstGap, IsHull}
use Rattle.sot_box.proofs.Laws.{gap_uncovered}

abbrev side : (lo hi : ℤ) → lo ≤ℤ hi → Side
side lo hi o = record { lo = lo; hi = hi }

-- [0..n]
abbrev upto : ℕ → Side
upto n = side (pos 0) (pos n) (omega (arith, ints))

-- [0..4, 0..4] and [3..9, 0..9]: two squares that overlap
abbrev corner : List (List Side)
corner = (upto 4 ∷ upto 4 ∷ []) ∷ (side (pos 3) (pos 9) (omega (arith, ints)) ∷ upto 9 ∷ []) ∷ []

-- both ends of an interval belong to it
low_end_is_inside : IsWithin (upto 4 ∷ upto 4 ∷ []) (pos 0 ∷ pos 4 ∷ [])
low_end_is_inside = (omega (arith, ints), omega (arith, ints), (omega (arith, ints), omega (arith, ints), tt))

-- each axis counts, and not the first alone
second_axis_counts : IsWithin (upto 4 ∷ upto 4 ∷ []) (pos 0 ∷ pos 5 ∷ []) → ⊥
second_axis_counts w = let high : pos 5 ≤ℤ pos 4 = w.2.1 in absurd (omega (arith, ints))

-- a point of another number of axes is in no box
other_width_is_outside : IsWithin (upto 4 ∷ upto 4 ∷ []) (pos 0 ∷ []) → ⊥
other_width_is_outside w = w.2

-- the second box alone holds (9, 9), and none holds (0, 5)
in_second_box : IsInRegion corner (pos 9 ∷ pos 9 ∷ [])
in_second_box = inr (inl (omega (arith, ints), omega (arith, ints), (omega (arith, ints), omega (arith, ints), tt)))

in_no_box : IsInRegion corner (pos 0 ∷ pos 5 ∷ []) → ⊥
in_no_box h = elim h [
  | inl first ↦ let high : pos 5 ≤ℤ pos 4 = first.2.1 in absurd (omega (arith, ints))
  | inr more ↦ elim more [
    | inl second ↦ let low : pos 3 ≤ℤ pos 0 = second.0 in absurd (omega (arith, ints))
    | inr none ↦ none
  ]
]

-- no point of no region
nothing_in_none : (s : List ℤ) → IsInRegion [] s → ⊥
nothing_in_none s h = h

-- (0, 9) comes before (1, 0), and no point before itself
first_axis_decides : IsBefore (pos 0 ∷ pos 9 ∷ []) (pos 1 ∷ pos 0 ∷ [])
first_axis_decides = inl (omega (arith, ints))

not_before_itself : IsBefore (pos 1 ∷ pos 2 ∷ []) (pos 1 ∷ pos 2 ∷ []) → ⊥
not_before_itself h = elim h [
  | inl less ↦ omega (arith, ints)
  | inr same ↦ elim same.1 [
    | inl less ↦ omega (arith, ints)
    | inr last ↦ last.1
  ]
]

-- the two boxes cover [0..9, 0..4] together, and neither of them alone
covers_together : Covers corner (upto 9 ∷ upto 4 ∷ [])
covers_together [] w = absurd w
covers_together (x ∷ []) w = absurd w.2
covers_together (x ∷ y ∷ z ∷ s) w = absurd w.2.2
covers_together (x ∷ y ∷ []) w =
    let low : pos 0 ≤ℤ x = w.0 in
    let high : x ≤ℤ pos 9 = w.1 in
    let low_y : pos 0 ≤ℤ y = w.2.0 in
    let high_y : y ≤ℤ pos 4 = w.2.1 in
    by_lt_z x (pos 5)
    (λ left. inl (omega (arith, ints), omega (arith, ints), (omega (arith, ints), omega (arith, ints), tt)))
    (λ right. inr (inl (omega (arith, ints), omega (arith, ints), (omega (arith, ints), omega (arith, ints), tt))))

-- (0, 5) is the gap of [0..9, 0..5], though (1, 5) and (2, 5) are outside too
gap_of_corner : IsGap corner (upto 9 ∷ upto 5 ∷ []) (pos 0 ∷ pos 5 ∷ [])
gap_of_corner = record {
  inside = (omega (arith, ints), omega (arith, ints), (omega (arith, ints), omega (arith, ints), tt));
  outside = in_no_box;
  least = before;
}
  where
    before : (t : List ℤ) → IsWithin (upto 9 ∷ upto 5 ∷ []) t → IsBefore t (pos 0 ∷ pos 5 ∷ []) → IsInRegion corner t
    before [] w h = absurd w
    before (x ∷ []) w h = absurd w.2
    before (x ∷ y ∷ z ∷ s) w h = absurd w.2.2
    before (x ∷ y ∷ []) w h =
        let low : pos 0 ≤ℤ x = w.0 in
        let low_y : pos 0 ≤ℤ y = w.2.0 in
        elim h [
          | inl less ↦ absurd (omega (arith, ints))
          | inr same ↦ elim same.1 [
            | inl under ↦
                let here : x ≡ pos 0 = same.0 in
                let top : y <ℤ pos 5 = under in
                inl (omega (arith, ints), omega (arith, ints), (omega (arith, ints), omega (arith, ints), tt))
            | inr last ↦ absurd last.1
          ]
        ]

corner_does_not_cover : Covers corner (upto 9 ∷ upto 5 ∷ []) → ⊥
corner_does_not_cover c = gap_uncovered corner (upto 9 ∷ upto 5 ∷ []) (pos 0 ∷ pos 5 ∷ []) gap_of_corner c

-- of two gaps (1, 4) and (4, 1) the one whose first coordinate is less is the least
abbrev holes : List (List Side)
holes =
    (upto 0 ∷ upto 4 ∷ [])
    ∷ (side (pos 1) (pos 1) (omega (arith, ints)) ∷ upto 3 ∷ [])
    ∷ (side (pos 2) (pos 3) (omega (arith, ints)) ∷ upto 4 ∷ [])
    ∷ (side (pos 4) (pos 4) (omega (arith, ints)) ∷ upto 0 ∷ [])
    ∷ (side (pos 4) (pos 4) (omega (arith, ints)) ∷ side (pos 2) (pos 4) (omega (arith, ints)) ∷ [])
    ∷ []

second_hole : IsInRegion holes (pos 4 ∷ pos 1 ∷ []) → ⊥
second_hole h = elim h [
  | inl a ↦ let f : pos 4 ≤ℤ pos 0 = a.1 in absurd (omega (arith, ints))
  | inr b ↦ elim b [
    | inl a ↦ let f : pos 4 ≤ℤ pos 1 = a.1 in absurd (omega (arith, ints))
    | inr c ↦ elim c [
      | inl a ↦ let f : pos 4 ≤ℤ pos 3 = a.1 in absurd (omega (arith, ints))
      | inr d ↦ elim d [
        | inl a ↦ let f : pos 1 ≤ℤ pos 0 = a.2.1 in absurd (omega (arith, ints))
        | inr e ↦ elim e [
          | inl a ↦ let f : pos 2 ≤ℤ pos 1 = a.2.0 in absurd (omega (arith, ints))
          | inr none ↦ none
        ]
      ]
    ]
  ]
]

least_of_two_holes : IsGap holes (upto 4 ∷ upto 4 ∷ []) (pos 4 ∷ pos 1 ∷ []) → ⊥
least_of_two_holes g =
    first_hole (g.least (pos 1 ∷ pos 4 ∷ []) (omega (arith, ints), omega (arith, ints), (omega (arith, ints), omega (arith, ints), tt))
    (inl (omega (arith, ints))))
  where
    first_hole : IsInRegion holes (pos 1 ∷ pos 4 ∷ []) → ⊥
    first_hole h = elim h [
      | inl a ↦ let f : pos 1 ≤ℤ pos 0 = a.1 in absurd (omega (arith, ints))
      | inr b ↦ elim b [
        | inl a ↦ let f : pos 4 ≤ℤ pos 3 = a.2.1 in absurd (omega (arith, ints))
        | inr c ↦ elim c [
          | inl a ↦ let f : pos 2 ≤ℤ pos 1 = a.0 in absurd (omega (arith, ints))
          | inr d ↦ elim d [
            | inl a ↦ let f : pos 4 ≤ℤ pos 1 = a.0 in absurd (omega (arith, ints))
            | inr e ↦ elim e [
              | inl a ↦ let f : pos 4 ≤ℤ pos 1 = a.0 in absurd (omega (arith, ints))
              | inr none ↦ none
            ]
          ]
        ]
      ]
    ]

abbrev some_lo : Option Side → Option ℤ
some_lo (Some r) = Some r.lo
some_lo None = None

abbrev some_hi : Option Side → Option ℤ
some_hi (Some r) = Some r.hi
some_hi None = None

-- the hull of the two squares is [0..9, 0..9], though the region does not cover it
hull_of_corner : IsHull corner (upto 9 ∷ upto 9 ∷ [])
hull_of_corner = record {
  has_point = (pos 9 ∷ pos 9 ∷ [], in_second_box);
  holds = λ s h. elim h [
    | inl first ↦ left s first
    | inr more ↦ elim more [
      | inl second ↦ right s second
      | inr none ↦ absurd none
    ]
  ];
  low = λ i r at. (pos 0 ∷ pos 0 ∷ [], inl (omega (arith, ints), omega (arith, ints), (omega (arith, ints), omega (arith, ints), tt)), low_end i r at);
  high = λ i r at. (pos 9 ∷ pos 9 ∷ [], in_second_box, high_end i r at);
}
  where
    left : (s : List ℤ) → IsWithin (upto 4 ∷ upto 4 ∷ []) s → IsWithin (upto 9 ∷ upto 9 ∷ []) s
    left [] w = absurd w
    left (x ∷ []) w = absurd w.2
    left (x ∷ y ∷ z ∷ s) w = absurd w.2.2
    left (x ∷ y ∷ []) w =
        let high : x ≤ℤ pos 4 = w.1 in
        let high_y : y ≤ℤ pos 4 = w.2.1 in
        (w.0, omega (arith, ints), (w.2.0, omega (arith, ints), tt))

    right : (s : List ℤ) → IsWithin (side (pos 3) (pos 9) (omega (arith, ints)) ∷ upto 9 ∷ []) s → IsWithin (upto 9 ∷ upto 9 ∷ []) s
    right [] w = absurd w
    right (x ∷ s) w = let low : pos 3 ≤ℤ x = w.0 in (omega (arith, ints), w.1, w.2)

    low_end : (i : ℕ) (r : Side) → At (upto 9 ∷ upto 9 ∷ []) i r → At (pos 0 ∷ pos 0 ∷ []) i r.lo
    low_end zero r at = ap (λ q. some_lo q) at
    low_end (suc zero) r at = ap (λ q. some_lo q) at
    low_end (suc (suc i)) r at = absurd (cc)

    high_end : (i : ℕ) (r : Side) → At (upto 9 ∷ upto 9 ∷ []) i r → At (pos 9 ∷ pos 9 ∷ []) i r.hi
    high_end zero r at = ap (λ q. some_hi q) at
    high_end (suc zero) r at = ap (λ q. some_hi q) at
    high_end (suc (suc i)) r at = absurd (cc)

-- no box is a hull of the empty region, also not the box of no axis
no_hull_of_none : IsHull [] [] → ⊥
no_hull_of_none h = h.has_point.1

-- [0..9, 0..5] is the first box that the two squares do not cover, and its gap counts
first_gap : IsFirstGap ((upto 9 ∷ upto 4 ∷ []) ∷ (upto 9 ∷ upto 5 ∷ []) ∷ (upto 9 ∷ upto 9 ∷ []) ∷ []) corner (pos 0 ∷ pos 5 ∷ [])
first_gap = inr (covers_together, inl gap_of_corner)

-- the box of one point is that point's alone
point_box_holds_it : IsWithin (point_box (negsuc 3 ∷ [])) (negsuc 3 ∷ [])
point_box_holds_it = (omega (arith, ints), omega (arith, ints), tt)

point_box_holds_no_other : IsWithin (point_box (negsuc 3 ∷ [])) (negsuc 2 ∷ []) → ⊥
point_box_holds_no_other w = let high : negsuc 2 ≤ℤ negsuc 3 = w.1 in absurd (omega (arith, ints))

-- the corners of [3..9, 0..9]
low_corner : lows (side (pos 3) (pos 9) (omega (arith, ints)) ∷ upto 9 ∷ []) ≡ pos 3 ∷ pos 0 ∷ []
low_corner = refl

high_corner : highs (side (pos 3) (pos 9) (omega (arith, ints)) ∷ upto 9 ∷ []) ≡ pos 9 ∷ pos 9 ∷ []
high_corner = refl
