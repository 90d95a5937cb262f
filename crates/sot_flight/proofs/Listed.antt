-- Rows that are stated one after another, of which the last one stays.
use Rattle.std.proofs.Common.{◌≡◌, ◌≢◌, ℕ, zero, suc, ◌-◌, ◌<◌, ◌≤◌, List, [], ◌∷◌, length, map, get_or, refl, sym, subst, arith}
use Rattle.sot_lists.specs.Places.{At}
use Rattle.sot_flight.specs.Stated.{row_at}

module _ {A B : Type 0} (f : B → List A) where
  -- before the last row it is the one of that number
  pub row_before : (rows : List B) (t : ℕ) (d : B) → suc t < length rows → row_at (map f rows) t ≡ f (get_or rows t d)
  row_before [] t d h = absurd (omega arith)
  row_before (x ∷ []) t d h = absurd (omega arith)
  row_before (x ∷ y ∷ rows) zero d h = refl
  row_before (x ∷ y ∷ rows) (suc t) d h = row_before (y ∷ rows) t d (omega arith)

  -- from the last row on it is that one
  pub row_past : (rows : List B) (t : ℕ) (d : B) → 0 < length rows → length rows ≤ suc t → row_at (map f rows) t ≡ f (get_or rows (length rows - 1) d)
  row_past [] t d some h = absurd (omega arith)
  row_past (x ∷ []) t d some h = refl
  row_past (x ∷ y ∷ rows) zero d some h = absurd (omega arith)
  row_past (x ∷ y ∷ rows) (suc t) d some h =
      let k : suc (suc (length rows)) - 1 ≡ suc (suc (length rows) - 1) = omega arith in
      subst (λ n. row_at (map f (y ∷ rows)) t ≡ f (get_or (x ∷ y ∷ rows) n d)) (sym k) (row_past (y ∷ rows) t d (omega arith) (omega arith))

module _ {A : Type 0} where
  -- it is one of the rows
  pub row_among : (rows : List (List A)) (t : ℕ) → rows ≢ [] → (k : ℕ) × At rows k (row_at rows t)
  row_among [] t some = absurd (some refl)
  row_among (x ∷ []) t some = (0, refl)
  row_among (x ∷ y ∷ rows) zero some = (0, refl)
  row_among (x ∷ y ∷ rows) (suc t) some = (let k = row_among (y ∷ rows) t (λ e. cc) in (suc k.0, k.1))

  pub some_rows : (rows : List A) → rows ≢ [] → 0 < length rows
  some_rows [] some = absurd (some refl)
  some_rows (x ∷ rows) some = omega arith
