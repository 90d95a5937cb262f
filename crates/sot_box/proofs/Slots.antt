-- Reads of a list that is kept in slots.
use Rattle.std.proofs.Math.ListN.{set}
use Rattle.std.proofs.Common.{zero, suc, [], ◌∷◌, refl, ◌≡◌, ℕ, ◌<◌, ◌≤◌, ℤ, List, length, take, slice_get, Some, get_or, replicate, arith, ap, pos}
use Rattle.std.proofs.lemmas.List.{get_or-take}
use Rattle.std.proofs.lemmas.Option.{slice_get-get_or}
use Rattle.sot_box.specs.PointSlots.{width-taken}

-- the part at i of a list that is kept in the first n slots
pub slot_read : {A : Type 0} (xs seen : List A) (n i : ℕ) (d x : A)
    → take n xs ≡ seen → length xs ≡ 4 → n ≤ 4 → i < length seen → x ≡ get_or xs i d → slice_get seen i ≡ Some x
slot_read xs seen n i d x is four within below read =
    let inside : i < n = omega (arith, width-taken n xs four within, ap length is) in
    rw (slice_get-get_or seen i d below, ← is, get_or-take n xs i d inside, read)

pub take-set_in : {A : Type 0} (n i : ℕ) (xs : List A) (x : A) → i < n → take n (set xs i x) ≡ set (take n xs) i x
take-set_in zero i xs x lt = absurd (omega arith)
take-set_in (suc n) i [] x lt = refl
take-set_in (suc n) zero (y ∷ ys) x lt = refl
take-set_in (suc n) (suc i) (y ∷ ys) x lt = ap (λ zs. y ∷ zs) (take-set_in n i ys x (omega arith))

pub take-zeros : {A : Type 0} (n m : ℕ) (x : A) → n ≤ m → take n (replicate m x) ≡ replicate n x
take-zeros zero m x le = refl
take-zeros (suc n) zero x le = absurd (omega arith)
take-zeros (suc n) (suc m) x le = ap (λ zs. x ∷ zs) (take-zeros n m x (omega arith))

-- a list of one number is that number
pub list_of_one : (xs : List ℤ) → length xs ≡ 1 → get_or xs 0 (pos 0) ∷ [] ≡ xs
list_of_one [] one = absurd (omega arith)
list_of_one (y ∷ []) one = refl
list_of_one (y ∷ z ∷ zs) one = absurd (omega arith)
