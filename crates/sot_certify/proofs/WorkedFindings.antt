-- Two findings, worked.
use Rattle.std.proofs.Common.{◌≡◌, ℕ, suc, ℤ, pos, ◌≤ℤ◌, [], ◌∷◌, inl, inr, refl, arith}
use Rattle.std.proofs.lemmas.Int.{ints}
use Rattle.sot_box.specs.Sides.{Side}
use Rattle.sot_lists.proofs.ShortLists.{at_one}
use Rattle.sot_certify.specs.Cuts.{IsOnePoint, AreHalves, extent}
use Rattle.sot_certify.specs.Findings.{Whole, Failing, Begun}
use Rattle.sot_certify.specs.Examples.{from_to, IsNarrow, EndsBy0, FindingsAreAsStated}
use Rattle.sot_certify.proofs.Worked.{widest_of_one}

-- boxes of one axis
narrow : (r : Side) → extent r ≤ℤ pos 1 → IsNarrow (r ∷ [])
narrow r le = at_one (λ i s. extent s ≤ℤ pos 1) r le

by_0 : (r : Side) → r.hi ≤ℤ pos 0 → EndsBy0 (r ∷ [])
by_0 r le = at_one (λ i s. s.hi ≤ℤ pos 0) r le

one_point : (r : Side) → r.lo ≡ r.hi → IsOnePoint (r ∷ [])
one_point r same = at_one (λ i s. s.lo ≡ s.hi) r same

wide : IsNarrow (from_to (pos 0) (pos 3) ∷ []) → ⊥
wide h = (let le : extent (from_to (pos 0) (pos 3)) ≤ℤ pos 1 = h 0 (from_to (pos 0) (pos 3)) refl in absurd (omega (arith, ints, le)))

late : (lo : ℤ) (n : ℕ) → EndsBy0 (from_to lo (pos (suc n)) ∷ []) → ⊥
late lo n h = (let le : pos (suc n) ≤ℤ pos 0 = h 0 (from_to lo (pos (suc n))) refl in absurd (omega (arith, ints, le)))

-- 0..3 is cut behind 1, and 0..1 behind 0
halves_of_four : AreHalves (from_to (pos 0) (pos 3) ∷ []) (from_to (pos 0) (pos 1) ∷ []) (from_to (pos 2) (pos 3) ∷ [])
halves_of_four = record {
  axis = 0;
  side = from_to (pos 0) (pos 3);
  middle = pos 1;
  widest = widest_of_one (from_to (pos 0) (pos 3));
  apart = omega (arith, ints);
  half = record { at_most = omega (arith, ints); at_least = omega (arith, ints) };
  low_is = refl;
  high_is = refl;
}

halves_of_two : AreHalves (from_to (pos 0) (pos 1) ∷ []) (from_to (pos 0) (pos 0) ∷ []) (from_to (pos 1) (pos 1) ∷ [])
halves_of_two = record {
  axis = 0;
  side = from_to (pos 0) (pos 1);
  middle = pos 0;
  widest = widest_of_one (from_to (pos 0) (pos 1));
  apart = omega (arith, ints);
  half = record { at_most = omega (arith, ints); at_least = omega (arith, ints) };
  low_is = refl;
  high_is = refl;
}

pub findings : FindingsAreAsStated
findings = (
  (
    Whole ((from_to (pos 0) (pos 1) ∷ []) ∷ (from_to (pos 2) (pos 3) ∷ []) ∷ []),
    Whole ((from_to (pos 8) (pos 8) ∷ []) ∷ []),
    (
      2,
      inr (inr (inr (
        wide,
        from_to (pos 0) (pos 1) ∷ [],
        from_to (pos 2) (pos 3) ∷ [],
        halves_of_four,
        Whole ((from_to (pos 0) (pos 1) ∷ []) ∷ []),
        Whole ((from_to (pos 2) (pos 3) ∷ []) ∷ []),
        inr (inl (narrow (from_to (pos 0) (pos 1)) (omega (arith, ints)), refl)),
        inr (inl (narrow (from_to (pos 2) (pos 3)) (omega (arith, ints)), refl)),
        refl,
      ))),
    ),
    (Whole ((from_to (pos 8) (pos 8) ∷ []) ∷ []), Whole [], (1, inr (inl (narrow (from_to (pos 8) (pos 8)) (omega (arith, ints)), refl))), inr refl, refl),
    refl,
  ),
  (
    Failing ((from_to (pos 0) (pos 0) ∷ []) ∷ []) (pos 1 ∷ []),
    Begun [],
    (
      2,
      inr (inr (inr (
        late (pos 0) 0,
        from_to (pos 0) (pos 0) ∷ [],
        from_to (pos 1) (pos 1) ∷ [],
        halves_of_two,
        Whole ((from_to (pos 0) (pos 0) ∷ []) ∷ []),
        Failing [] (pos 1 ∷ []),
        inr (inl (by_0 (from_to (pos 0) (pos 0)) (omega (arith, ints)), refl)),
        inr (inr (inl (late (pos 1) 0, one_point (from_to (pos 1) (pos 1)) refl, refl))),
        refl,
      ))),
    ),
    (Begun [], Begun [], (0, refl), inl refl, refl),
    refl,
  ),
)
