-- The bytes of a block's atoms, row by row.
use Rattle.std.proofs.Common.{◌≡◌, ◌≢◌, ℕ, ◌+◌, ◌-◌, ◌*◌, ◌<◌, ◌≤◌, ◌⊎◌, inl, inr, ⊎_elim}
use Rattle.std.proofs.Common.{List, [], ◌∷◌, Bool, IsTrue, ◌↔◌, length, slice_index, refl, sym, ◌∙◌, subst, arith}
use Rattle.std.proofs.Common.{not, nat_eq}
use Rattle.std.proofs.lemmas.Nat.{mul-le}
use Rattle.std.proofs.lemmas.Bool.Decides.{nat_tests}
use Rattle.sot_atoms.specs.declared.axis.Axis.{Axis}
use Rattle.sot_atoms.specs.declared.block.Stretch.{Stretch}
use Rattle.sot_atoms.specs.Blocks.{IsInBlock, FitsAxes, atom_count, number_from}
use Rattle.sot_atoms.specs.Rows.{Lacks, EachLacks, Fills, EachFills}

-- axes on which a block fits have some atom
pub some_atom : (xs : List Axis) (rs : List Stretch) → FitsAxes xs rs → 0 < atom_count xs
some_atom [] [] fits = omega arith
some_atom (x ∷ xs) (r ∷ rs) fits =
    let more = some_atom xs rs fits.2 in
    let size : 1 ≤ x.size = omega (arith, fits.1) in
    let m : 1 * 1 ≤ x.size * atom_count xs = mul-le 1 1 x.size (atom_count xs) size (omega arith) in
    omega arith
some_atom [] (r ∷ rs) fits = absurd fits
some_atom (x ∷ xs) [] fits = absurd fits

-- there is room for what comes behind a place of the first axis
pub room_behind : (before size a rest n : ℕ) → (before + 1) * (size * rest) ≤ n → a < size → (before * size + a + 1) * rest ≤ n
room_behind before size a rest n room lt =
    let one : (before + 1) * (size * rest) ≡ (before * size + size) * rest = grind arith in
    let m : (before * size + a + 1) * rest ≤ (before * size + size) * rest = mul-le (before * size + a + 1) rest (before * size + size) rest
    (omega arith) (omega arith) in
    omega arith

-- and so the number itself is in range
pub room_at : (before size a rest n : ℕ) → (before + 1) * (size * rest) ≤ n → a < size → 0 < rest → before * size + a < n
room_at before size a rest n room lt some =
    let behind = room_behind before size a rest n room lt in
    let m : (before * size + a + 1) * 1 ≤ (before * size + a + 1) * rest = mul-le (before * size + a + 1) 1 (before * size + a + 1) rest (omega arith) some in
    omega arith

module _ (byte : ℕ) (bytes : List ℕ) (before : ℕ) where
  pub lacks_none : (b : Bool) (sides : List Stretch) → FitsAxes [] sides → (IsTrue b ↔ (slice_index bytes before ≢ byte)) → IsTrue b
      ↔ Lacks byte bytes [] sides before
  lacks_none b [] fits t = (λ is at inside. none at inside (t.0 is), λ lacks. t.1 (lacks [] tt))
    where
      none : (at : List ℕ) → IsInBlock [] at → slice_index bytes before ≢ byte → slice_index bytes (number_from before [] at) ≢ byte
      none [] inside ne = ne
      none (a ∷ rest) inside ne = absurd inside
  lacks_none b (r ∷ rs) fits t = absurd fits

  module _ (x : Axis) (xs : List Axis) (r : Stretch) (rs : List Stretch) where
    to_whole : EachLacks byte bytes x.size r xs rs before → Lacks byte bytes (x ∷ xs) (r ∷ rs) before
    to_whole each [] inside = absurd inside
    to_whole each (a ∷ rest) inside = each a inside.0 inside.1 rest inside.2

    pub lacks_each : (b : Bool) → (IsTrue b ↔ EachLacks byte bytes x.size r xs rs before) → IsTrue b ↔ Lacks byte bytes (x ∷ xs) (r ∷ rs) before
    lacks_each b t = (λ is. to_whole (t.0 is), λ lacks. t.1 (λ a low high rest inside. lacks (a ∷ rest) (low, high, inside)))

  pub lacks_row : (b : Bool) (x : Axis) (r : Stretch) (rs : List Stretch) → FitsAxes [] rs
      → (IsTrue b ↔ ((k : ℕ) → before * x.size + r.from ≤ k → k ≤ before * x.size + r.from + (r.to - r.from) → slice_index bytes k ≢ byte))
      → r.from ≤ r.to → IsTrue b ↔ Lacks byte bytes (x ∷ []) (r ∷ rs) before
  lacks_row b x r [] fits t order = lacks_each x [] r [] b (
    λ is a low high at inside. one a at inside (t.0 is (before * x.size + a) (omega arith) (omega arith)),
    λ each. t.1 (λ k low high. let e : before * x.size + (k - before * x.size) ≡ k = omega arith in
        subst (λ n. slice_index bytes n ≢ byte) e (each (k - before * x.size) (omega arith) (omega arith) [] tt)),
  )
    where
      one : (a : ℕ) (at : List ℕ) → IsInBlock [] at → slice_index bytes (before * x.size + a) ≢ byte
          → slice_index bytes (number_from (before * x.size + a) [] at) ≢ byte
      one a [] inside ne = ne
      one a (c ∷ rest) inside ne = absurd inside
  lacks_row b x r (q ∷ rs) fits t order = absurd fits

module _ (byte : ℕ) (old mid new : List ℕ) (size from n : ℕ) (inner : List Axis) (within : List Stretch) (before : ℕ) where
  -- one more place is filled
  pub fills_more : EachFills byte old mid size from n inner within before → Fills byte mid new inner within (before * size + n) → from ≤ n
      → EachFills byte old new size from (n + 1) inner within before
  fills_more far one low = record {
    inside = λ a at lo hi inside. ⊎_elim
        (λ (lt : a < n). kept (number_from (before * size + a) inner at) (far.inside a at lo lt inside))
        (λ (e : a ≡ n). subst (λ q. slice_index new (number_from (before * size + q) inner at) ≡ byte) (sym e) (one.inside at inside))
        (last a hi);
    outside = λ k free. one.outside k (λ at inside. free n at low (omega arith) inside)
        ∙ far.outside k (λ a at lo hi inside. free a at lo (omega arith) inside);
    either = λ k. ⊎_elim
        (λ same. ⊎_elim (λ first. inl (same ∙ first)) (λ was. inr (same ∙ was)) (far.either k))
        (λ is. inr is) (one.either k);
  }
    where
      kept : (k : ℕ) → slice_index mid k ≡ byte → slice_index new k ≡ byte
      kept k was = ⊎_elim (λ same. same ∙ was) (λ is. is) (one.either k)

      last : (a : ℕ) → a < n + 1 → (a < n) ⊎ (a ≡ n)
      last a hi = grind arith

pub fills_start : (byte : ℕ) (bytes : List ℕ) (size from : ℕ) (inner : List Axis) (within : List Stretch) (before : ℕ)
    → EachFills byte bytes bytes size from from inner within before
fills_start byte bytes size from inner within before = record {
  inside = λ a at lo hi inside. absurd (omega arith);
  outside = λ k free. refl;
  either = λ k. inl refl;
}

module _ (byte : ℕ) (old new : List ℕ) (before : ℕ) where
  pub fills_whole : (x : Axis) (xs : List Axis) (r : Stretch) (rs : List Stretch) → EachFills byte old new x.size r.from (r.to + 1) xs rs before
      → Fills byte old new (x ∷ xs) (r ∷ rs) before
  fills_whole x xs r rs each = record {
    inside = inside;
    outside = λ k free. each.outside k (λ a at lo hi within. free (a ∷ at) (lo, omega arith, within));
    either = each.either;
  }
    where
      inside : (at : List ℕ) → IsInBlock (r ∷ rs) at → slice_index new (number_from before (x ∷ xs) at) ≡ byte
      inside [] h = absurd h
      inside (a ∷ rest) h = each.inside a rest h.0 (omega (arith, h.1)) h.2

  -- a row is filled
  pub fills_row : (x : Axis) (r : Stretch) (rs : List Stretch) → FitsAxes [] rs → r.from ≤ r.to
      → ((k : ℕ) → before * x.size + r.from ≤ k → k ≤ before * x.size + r.from + (r.to - r.from) → slice_index new k ≡ byte)
      → ((k : ℕ) → (k < before * x.size + r.from) ⊎ (before * x.size + r.from + (r.to - r.from) < k) → slice_index new k ≡ slice_index old k)
      → Fills byte old new (x ∷ []) (r ∷ rs) before
  fills_row x r [] fits order inside outside = fills_whole x [] r [] (record {
    inside = λ a at lo hi within. one a at within (inside (before * x.size + a) (omega arith) (omega arith));
    outside = λ k free. ⊎_elim (λ away. outside k away)
        (λ (here : (before * x.size + r.from ≤ k) × (k ≤ before * x.size + r.from + (r.to - r.from))).
        absurd (free (k - before * x.size) [] (omega (arith, here.0)) (omega (arith, here.1)) tt (omega (arith, here.0)))) (where_is k);
    either = λ k. ⊎_elim (λ away. inl (outside k away))
        (λ (here : (before * x.size + r.from ≤ k) × (k ≤ before * x.size + r.from + (r.to - r.from))). inr (inside k here.0 here.1)) (where_is k);
  })
    where
      one : (a : ℕ) (at : List ℕ) → IsInBlock [] at → slice_index new (before * x.size + a) ≡ byte
          → slice_index new (number_from (before * x.size + a) [] at) ≡ byte
      one a [] within is = is
      one a (c ∷ rest) within is = absurd within

      where_is : (k : ℕ) → ((k < before * x.size + r.from) ⊎ (before * x.size + r.from + (r.to - r.from) < k))
          ⊎ ((before * x.size + r.from ≤ k) × (k ≤ before * x.size + r.from + (r.to - r.from)))
      where_is k = grind arith
  fills_row x r (q ∷ rs) fits order inside outside = absurd fits

  -- one atom is filled
  pub fills_one : (rs : List Stretch) → FitsAxes [] rs
      → ((k : ℕ) → before ≤ k → k ≤ before → slice_index new k ≡ byte)
      → ((k : ℕ) → (k < before) ⊎ (before < k) → slice_index new k ≡ slice_index old k)
      → Fills byte old new [] rs before
  fills_one [] fits inside outside = record {
    inside = one;
    outside = λ k free. outside k (apart k (free [] tt));
    either = λ k. ⊎_elim (λ away. inl (outside k away))
        (λ (e : before ≡ k). inr (subst (λ n. slice_index new n ≡ byte) e (inside before (omega arith) (omega arith)))) (where_is k);
  }
    where
      one : (at : List ℕ) → IsInBlock [] at → slice_index new (number_from before [] at) ≡ byte
      one [] within = inside before (omega arith) (omega arith)
      one (c ∷ rest) within = absurd within

      apart : (k : ℕ) → before ≢ k → (k < before) ⊎ (before < k)
      apart k ne = grind arith

      where_is : (k : ℕ) → ((k < before) ⊎ (before < k)) ⊎ (before ≡ k)
      where_is k = grind arith
  fills_one (q ∷ rs) fits inside outside = absurd fits

-- the same of axes and stretches that are taken apart
is_unlike : (x y : ℕ) → IsTrue (not (nat_eq x y)) ↔ (x ≢ y)
is_unlike x y = (λ t e. grind (arith, nat_tests), λ ne. grind (arith, nat_tests))

pub lacks_by_none : (byte : ℕ) (bytes : List ℕ) (before : ℕ) (axes : List Axis) (sides : List Stretch) → length axes ≡ 0 → FitsAxes axes sides
    → IsTrue (not (nat_eq (slice_index bytes before) byte)) ↔ Lacks byte bytes axes sides before
lacks_by_none byte bytes before [] sides none fits = lacks_none byte bytes before _ sides fits (is_unlike (slice_index bytes before) byte)
lacks_by_none byte bytes before (x ∷ xs) sides none fits = absurd (omega (arith, none))

module _ (axes : List Axis) (sides : List Stretch) (x : Axis) (xs : List Axis) (r : Stretch) (rs : List Stretch) (axes_are : axes ≡ x ∷ xs)
    (sides_are : sides ≡ r ∷ rs)
    (fits : FitsAxes axes sides) where
  apart : FitsAxes (x ∷ xs) (r ∷ rs)
  apart = subst (λ q. FitsAxes (x ∷ xs) q) sides_are (subst (λ q. FitsAxes q sides) axes_are fits)

  lacks_again : (byte : ℕ) (bytes : List ℕ) (before : ℕ) (b : Bool) → (IsTrue b ↔ Lacks byte bytes (x ∷ xs) (r ∷ rs) before) → IsTrue b
      ↔ Lacks byte bytes axes sides before
  lacks_again byte bytes before b t =
      subst (λ q. IsTrue b ↔ Lacks byte bytes q sides before) (sym axes_are) (subst (λ q. IsTrue b ↔ Lacks byte bytes (x ∷ xs) q before) (sym sides_are) t)

  pub lacks_by_each : (byte : ℕ) (bytes : List ℕ) (before : ℕ) (b : Bool) → (IsTrue b ↔ EachLacks byte bytes x.size r xs rs before)
      → IsTrue b ↔ Lacks byte bytes axes sides before
  lacks_by_each byte bytes before b t = lacks_again byte bytes before b (lacks_each byte bytes before x xs r rs b t)

  pub lacks_by_row : (byte : ℕ) (bytes : List ℕ) (before : ℕ) (b : Bool) → length xs ≡ 0
      → (IsTrue b ↔ ((k : ℕ) → before * x.size + r.from ≤ k → k ≤ before * x.size + r.from + (r.to - r.from) → slice_index bytes k ≢ byte))
      → IsTrue b ↔ Lacks byte bytes axes sides before
  lacks_by_row byte bytes before b none t = lacks_again byte bytes before b (go xs none apart)
    where
      go : (ys : List Axis) → length ys ≡ 0 → FitsAxes (x ∷ ys) (r ∷ rs) → IsTrue b ↔ Lacks byte bytes (x ∷ ys) (r ∷ rs) before
      go [] none' f = lacks_row byte bytes before b x r rs f.2 t f.0
      go (y ∷ ys) none' f = absurd (omega (arith, none'))

  fills_again : (byte : ℕ) (old new : List ℕ) (before : ℕ) → Fills byte old new (x ∷ xs) (r ∷ rs) before → Fills byte old new axes sides before
  fills_again byte old new before f =
      subst (λ q. Fills byte old new q sides before) (sym axes_are) (subst (λ q. Fills byte old new (x ∷ xs) q before) (sym sides_are) f)

  pub fills_by_each : (byte : ℕ) (old new : List ℕ) (before : ℕ) → EachFills byte old new x.size r.from (r.to + 1) xs rs before
      → Fills byte old new axes sides before
  fills_by_each byte old new before each = fills_again byte old new before (fills_whole byte old new before x xs r rs each)

  pub fills_by_row : (byte : ℕ) (old new : List ℕ) (before : ℕ) → length xs ≡ 0
      → ((k : ℕ) → before * x.size + r.from ≤ k → k ≤ before * x.size + r.from + (r.to - r.from) → slice_index new k ≡ byte)
      → ((k : ℕ) → (k < before * x.size + r.from) ⊎ (before * x.size + r.from + (r.to - r.from) < k) → slice_index new k ≡ slice_index old k)
      → Fills byte old new axes sides before
  fills_by_row byte old new before none inside outside = fills_again byte old new before (go xs none apart)
    where
      go : (ys : List Axis) → length ys ≡ 0 → FitsAxes (x ∷ ys) (r ∷ rs) → Fills byte old new (x ∷ ys) (r ∷ rs) before
      go [] none' f = fills_row byte old new before x r rs f.2 f.0 inside outside
      go (y ∷ ys) none' f = absurd (omega (arith, none'))

pub fills_by_none : (byte : ℕ) (old new : List ℕ) (before : ℕ) (axes : List Axis) (sides : List Stretch) → length axes ≡ 0 → FitsAxes axes sides
    → ((k : ℕ) → before ≤ k → k ≤ before → slice_index new k ≡ byte)
    → ((k : ℕ) → (k < before) ⊎ (before < k) → slice_index new k ≡ slice_index old k)
    → Fills byte old new axes sides before
fills_by_none byte old new before [] sides none fits inside outside = fills_one byte old new before sides fits inside outside
fills_by_none byte old new before (x ∷ xs) sides none fits inside outside = absurd (omega (arith, none))
