-- The first member of a set from a number on.
use Rattle.std.proofs.Common.{◌≡◌, ℕ, ◌+◌, ◌-◌, ◌<◌, ◌≤◌, List, length, drop, slice_index, ap, ◌∙◌, arith, length-drop}
use Rattle.std.proofs.Math.ListN.{get_or-eq_default}
use Rattle.std.proofs.lemmas.List.{get_or-drop}
use Rattle.std.proofs.lemmas.Bool.Decides.{nat_tests}
use Rattle.memchr.specs.Find.{Nowhere, Passes, is_byte}
use Rattle.sot_atoms.specs.Sets.{IsFirstMember}

module _ (set : List ℕ) (from : ℕ) where
  -- behind the end of a list there is nothing
  pub none_past : length set ≤ from → (k : ℕ) → from ≤ k → slice_index set k ≡ 1 → ⊥
  none_past past k low m = (let z : slice_index set k ≡ 0 = get_or-eq_default set 0 (omega arith) in omega arith)

  at : (k : ℕ) → from ≤ k → slice_index (drop from set) (k - from) ≡ slice_index set k
  at k low = (let e : from + (k - from) ≡ k = omega arith in get_or-drop from set (k - from) 0 ∙ ap (slice_index set) e)

  pub none_found : from < length set → Nowhere (Passes (is_byte 1) (drop from set)) 0 (length (drop from set))
      → (k : ℕ) → from ≤ k → slice_index set k ≡ 1 → ⊥
  none_found inside none k low m = none_from (omega_cases k)
    where
      omega_cases : (j : ℕ) → (j < length set → ⊥) → length set ≤ j
      omega_cases j out = omega (arith, out)

      none_from : ((k < length set → ⊥) → length set ≤ k) → ⊥
      none_from c =
          let l = length-drop from set in
          let z : (k < length set → ⊥) = λ lt. none (k - from) (omega arith) (omega arith) (let e = at k low in grind (arith, nat_tests)) in
          let past : length set ≤ k = c z in
          let out : slice_index set k ≡ 0 = get_or-eq_default set 0 past in
          omega arith

  pub first_found : (j : ℕ) → from < length set → j < length (drop from set) → Nowhere (Passes (is_byte 1) (drop from set)) 0 j
      → Passes (is_byte 1) (drop from set) j → IsFirstMember set from (from + j)
  first_found j inside lt none here = record {
    there = (let l = length-drop from set in omega arith);
    behind = omega arith;
    member = (let e = get_or-drop from set j 0 in grind (arith, nat_tests));
    first = λ k low before m. none (k - from) (omega arith) (omega arith) (let e = at k low in grind (arith, nat_tests));
  }
