-- Worked boxes of atoms, on a grid of one side from 0 to 5 that is cut into 0 to 1, 2 to 3 and 4 to 5.
use Rattle.std.proofs.Common.{◌≡◌, ℕ, zero, suc, ◌+◌, ◌≤◌, ℤ, pos, ◌≤ℤ◌, List, [], ◌∷◌, refl, sym, subst, arith}
use Rattle.std.proofs.lemmas.Int.{ints}
use Rattle.std.proofs.lemmas.Option.{same_Some, none-some}
use Rattle.sot_lists.specs.Places.{At}
use Rattle.sot_box.specs.Sides.{Side}
use Rattle.sot_box.specs.Boxes.{IsWithin}
use Rattle.sot_atoms.specs.declared.axis.Axis.{Axis}
use Rattle.sot_atoms.specs.Places.{HoldsNumber, end_of}
use Rattle.sot_atoms.specs.Grids.{Cut, HoldsPoint}
use Rattle.sot_invariant_atoms.specs.Closed.{IsAtomSide, IsAtomBox}

abbrev one_place : Axis
one_place = record { side = 0; lo = pos 0; hi = pos 5; shift = 3; size = 1 }

abbrev pairs : Axis
pairs = record { side = 0; lo = pos 0; hi = pos 5; shift = 1; size = 3 }

abbrev grid_of_pairs : Cut
grid_of_pairs = record { width = 1; last = 0; axes = one_place ∷ one_place ∷ one_place ∷ pairs ∷ [] }

abbrev second : List ℕ
second = 0 ∷ 0 ∷ 0 ∷ 1 ∷ []

abbrev from_to : ℕ → ℕ → List Side
from_to a b = record { lo = pos a; hi = pos b } ∷ []

-- the box of the second atom is 2 to 3
pub second_box : IsAtomBox grid_of_pairs second (from_to 2 3)
second_box = record { width = refl; ordered = (omega (arith, ints), tt); sides = sides; points = points }
  where
    sides : (i : ℕ) (r : Side) → At (from_to 2 3) i r → IsAtomSide grid_of_pairs second i r
    sides zero r at = subst (IsAtomSide grid_of_pairs second 0) (same_Some _ r at)
        (record { k = 3; axis = pairs; place = 1; is_axis = refl; real = omega arith; side = refl; is_place = refl; lo = refl; hi = refl })
    sides (suc i) r at = absurd (none-some r at)

    points : (s : List ℤ) → IsWithin (from_to 2 3) s → HoldsPoint grid_of_pairs.axes second s
    points [] w = absurd w
    points (z ∷ []) w =
        let all = held_all z w.0 w.1 in
        (all, (all, (all, (record { there = omega arith; from = w.0; to = w.1 }, tt))))
      where
        held_all : (y : ℤ) → pos 2 ≤ℤ y → y ≤ℤ pos 3 → HoldsNumber one_place 0 y
        held_all y low high = record { there = omega arith; from = omega (arith, ints, low); to = omega (arith, ints, high) }
    points (z ∷ y ∷ more) w = absurd w.2

-- and no other atom has that box
pub first_has_another : IsAtomBox grid_of_pairs (0 ∷ 0 ∷ 0 ∷ 0 ∷ []) (from_to 2 3) → ⊥
first_has_another box = (let h = box.points (pos 2 ∷ []) (omega (arith, ints), omega (arith, ints), tt) in omega (arith, ints, h.1.1.1.0.to))

-- nor has the atom a box of some of its points alone
pub not_a_part : IsAtomBox grid_of_pairs second (from_to 2 2) → ⊥
not_a_part box = (let h = box.sides 0 _ refl in from h.k h.axis h.place h.real h.is_axis h.is_place h.hi)
  where
    from : (k : ℕ) (x : Axis) (a : ℕ) → 4 ≤ k + 1 → At grid_of_pairs.axes k x → At second k a → pos 2 ≡ end_of x a → ⊥
    from zero x a real ax aa e = omega (arith, real)
    from (suc zero) x a real ax aa e = omega (arith, real)
    from (suc (suc zero)) x a real ax aa e = omega (arith, real)
    from (suc (suc (suc zero))) x a real ax aa e =
        let there = subst (λ (t : Axis). pos 2 ≡ end_of t a) (sym (same_Some pairs x ax)) e in
        let here : pos 2 ≡ pos 3 = subst (λ n. pos 2 ≡ end_of pairs n) (sym (same_Some 1 a aa)) there in
        omega (arith, ints, here)
    from (suc (suc (suc (suc k)))) x a real ax aa e = none-some x ax
