-- Worked cuts.
use Rattle.std.proofs.Common.{ℕ, zero, suc, ◌<◌, pos, negsuc, ◌≤ℤ◌, ◌<ℤ◌, [], ◌∷◌, refl, subst, arith}
use Rattle.std.proofs.lemmas.Int.{ints}
use Rattle.std.proofs.lemmas.Option.{same_Some}
use Rattle.sot_box.specs.Sides.{Side}
use Rattle.sot_lists.specs.Places.{At}
use Rattle.sot_lists.proofs.ShortLists.{at_one, at_two}
use Rattle.sot_certify.specs.Cuts.{IsWidest, extent}
use Rattle.sot_certify.specs.Examples.{from_to, CutsAreAsStated}

-- the widest of one interval, and of two
pub widest_of_one : (r : Side) → IsWidest (r ∷ []) 0 r
widest_of_one r = record {
  is = refl;
  widest = at_one (λ i s. extent s ≤ℤ extent r) r (omega (arith, ints));
  first = λ i s lt at. absurd (omega (arith, lt));
}

first_of_two : (r q : Side) → extent q ≤ℤ extent r → IsWidest (r ∷ q ∷ []) 0 r
first_of_two r q le = record {
  is = refl;
  widest = at_two (λ i s. extent s ≤ℤ extent r) r q (omega (arith, ints)) le;
  first = λ i s lt at. absurd (omega (arith, lt));
}

second_of_two : (q r : Side) → extent q <ℤ extent r → IsWidest (q ∷ r ∷ []) 1 r
second_of_two q r lt = record {
  is = refl;
  widest = at_two (λ i s. extent s ≤ℤ extent r) q r (omega (arith, ints)) (omega (arith, ints));
  first = before;
}
  where
    before : (i : ℕ) (s : Side) → i < 1 → At (q ∷ r ∷ []) i s → extent s <ℤ extent r
    before zero s less at = subst (λ (x : Side). extent x <ℤ extent r) (same_Some q s at) lt
    before (suc i) s less at = absurd (omega (arith, less))

pub cuts : CutsAreAsStated
cuts = (
  record {
    axis = 0;
    side = from_to (negsuc 2) (pos 2);
    middle = negsuc 0;
    widest = widest_of_one (from_to (negsuc 2) (pos 2));
    apart = omega (arith, ints);
    half = record { at_most = omega (arith, ints); at_least = omega (arith, ints) };
    low_is = refl;
    high_is = refl;
  },
  record {
    axis = 0;
    side = from_to (pos 0) (pos 3);
    middle = pos 1;
    widest =
        first_of_two (from_to (pos 0) (pos 3)) (from_to (pos 5) (pos 8)) (omega (arith, ints));
    apart =
        omega (arith, ints);
    half = record { at_most = omega (arith, ints); at_least = omega (arith, ints) };
    low_is = refl;
    high_is = refl;
  },
  record {
    axis = 1;
    side = from_to (pos 5) (pos 8);
    middle = pos 6;
    widest =
        second_of_two (from_to (pos 0) (pos 1)) (from_to (pos 5) (pos 8)) (omega (arith, ints));
    apart =
        omega (arith, ints);
    half = record { at_most = omega (arith, ints); at_least = omega (arith, ints) };
    low_is = refl;
    high_is = refl;
  },
)
