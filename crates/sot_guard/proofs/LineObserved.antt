-- The running example is observed.
use Rattle.std.proofs.Common.{◌≡◌, zero, suc, ℤ, pos, negsuc, ◌≤ℤ◌, Ok, [], ◌∷◌, refl, subst, arith}
use Rattle.std.proofs.lemmas.Int.{ints}
use Rattle.std.proofs.lemmas.Option.{same_Some}
use Rattle.std.specs.Global.{Global}
use Rattle.sot_box.specs.Boxes.{IsWithin}
use Rattle.sot_lang.specs.Ranges.{bounds}
use Rattle.sot_lang.specs.Line.{side, pos_plant}
use Rattle.sot_iv.proofs.Unique.{terms_same}
use Rattle.sot_tube.proofs.LineBoxes.{next_box}
use Rattle.sot_guard.specs.Outside.{IsBoxOf, IsInBox}
use Rattle.sot_guard.specs.Examples.{LineMayBeAt3, LineMayNotBeAt4, LineIsOutsideAt4, CommandsAreTheNewOnes}

module _ (g : Global) where
  -- the box from 0 with command 2, and with command 0
  with_2 : IsBoxOf (pos 2 ∷ []) ((pos 0 ∷ []) ∷ []) 0 (pos_plant g) (side (pos 1) (pos 3) ∷ [])
  with_2 = next_box g (side (pos 0) (pos 0)) (side (pos 2) (pos 2)) (omega (arith, ints)) (omega (arith, ints)) (refl, refl) (refl, refl)

  with_0 : IsBoxOf (pos 0 ∷ []) ((pos 0 ∷ []) ∷ []) 0 (pos_plant g) (side (negsuc 0) (pos 1) ∷ [])
  with_0 = next_box g (side (pos 0) (pos 0)) (side (pos 0) (pos 0)) (omega (arith, ints)) (omega (arith, ints)) (refl, refl) (refl, refl)

  -- no other box is the least one
  only : (command : ℤ) (lo hi z : ℤ) → IsBoxOf (command ∷ []) ((pos 0 ∷ []) ∷ []) 0 (pos_plant g) (side lo hi ∷ [])
      → IsInBox (command ∷ []) ((pos 0 ∷ []) ∷ []) 0 (pos_plant g) (z ∷ []) → z ≤ℤ hi
  only command lo hi z is (box, other, within) =
      let sides = side (pos 0) (pos 0) ∷ side command command ∷ bounds (pos_plant g) in
      let same : box ≡ side lo hi ∷ [] = (let e = terms_same (pos_plant g).next.items sides (Ok box) (Ok (side lo hi ∷ [])) other is in cc) in
      (subst (λ b. IsWithin b (z ∷ [])) same within).1

  pub at_3 : LineMayBeAt3 g
  at_3 zero plant lt at =
      let same : pos_plant g ≡ plant = same_Some (pos_plant g) plant at in (
        side (pos 1) (pos 3) ∷ [],
        subst (λ q. IsBoxOf (pos 2 ∷ []) ((pos 0 ∷ []) ∷ []) 0 q (side (pos 1) (pos 3) ∷ [])) same with_2,
        (omega (arith, ints), omega (arith, ints), tt),
      )
  at_3 (suc k) plant lt at = absurd (omega (arith, lt))

  pub not_at_4 : LineMayNotBeAt4 g
  not_at_4 all =
      let most = only (pos 2) (pos 1) (pos 3) (pos 4) with_2 (all 0 (pos_plant g) (omega arith) refl) in
      omega (arith, ints, most)

  pub told : LineIsOutsideAt4 g
  told = record {
    plant = pos_plant g;
    is = refl;
    box = side (pos 1) (pos 3) ∷ [];
    box_is = with_2;
    first = record {
      bounds_are = refl;
      value_is = refl;
      outside = λ i. (let most = i.1 in omega (arith, ints, most));
      before = λ j r z lt at_j at_z. absurd (omega (arith, lt));
    };
    before = λ k plant lt at. absurd (omega (arith, lt));
  }

  pub new_ones : CommandsAreTheNewOnes g
  new_ones all =
      let most = only (pos 0) (negsuc 0) (pos 1) (pos 3) with_0 (all 0 (pos_plant g) (omega arith) refl) in
      omega (arith, ints, most)
