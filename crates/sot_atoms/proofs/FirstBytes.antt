-- What the first place of a byte in a part of a list says of the list.
use Rattle.std.proofs.Common.{◌≡◌, ◌≢◌, ℕ, ◌+◌, ◌-◌, ◌<◌, ◌≤◌, List, true, false, IsTrue}
use Rattle.std.proofs.Common.{◌↔◌, length, take, drop, slice_index, refl, sym, ap, ◌∙◌, arith, length-take-le, length-drop}
use Rattle.std.proofs.lemmas.List.{get_or-drop, get_or-take}
use Rattle.std.proofs.lemmas.Bool.Decides.{nat_tests}
use Rattle.memchr.specs.Find.{Nowhere, Passes, is_byte}

-- the part from a place up to another has its bytes
part_at : (bytes : List ℕ) (from end j : ℕ) → from + j < end → slice_index (take (end - from) (drop from bytes)) j ≡ slice_index bytes (from + j)
part_at bytes from end j lt = get_or-take (end - from) (drop from bytes) j 0 (omega arith) ∙ get_or-drop from bytes j 0

module _ (byte : ℕ) (bytes : List ℕ) (from to : ℕ) (order : from ≤ to) (there : to < length bytes) where
  long : length (take (to + 1 - from) (drop from bytes)) ≡ to + 1 - from
  long = length-take-le (to + 1 - from) (drop from bytes) (omega (arith, length-drop from bytes))

  pub row_without : Nowhere (Passes (is_byte byte) (take (to + 1 - from) (drop from bytes))) 0 (length (take (to + 1 - from) (drop from bytes)))
      → IsTrue true ↔ ((k : ℕ) → from ≤ k → k ≤ to → slice_index bytes k ≢ byte)
  row_without none = (
    λ _ k low high e.
        let j : from + (k - from) ≡ k = omega arith in
        let at : slice_index (take (to + 1 - from) (drop from bytes)) (k - from) ≡ byte = part_at bytes from (to + 1) (k - from) (omega arith)
        ∙ ap (slice_index bytes) j ∙ e in
        let l = long in
        none (k - from) (omega arith) (omega arith) (grind (arith, nat_tests)),
    λ _. refl,
  )

  pub row_with : (j : ℕ) → j < length (take (to + 1 - from) (drop from bytes)) → Passes (is_byte byte) (take (to + 1 - from) (drop from bytes)) j
      → IsTrue false ↔ ((k : ℕ) → from ≤ k → k ≤ to → slice_index bytes k ≢ byte)
  row_with j lt passes = (
    λ t. absurd (cc),
    λ lacks.
        let l = long in
        let at : slice_index (take (to + 1 - from) (drop from bytes)) j ≡ byte = grind (arith, nat_tests) in
        absurd (lacks (from + j) (omega arith) (omega arith) (sym (part_at bytes from (to + 1) j (omega arith)) ∙ at)),
  )
