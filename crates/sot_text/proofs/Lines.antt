-- The first line of a text, and texts without their last byte.
use Rattle.std.proofs.Common.{◌≡◌, ◌≢◌, ℕ, zero, suc, ◌+◌, ◌<◌, ◌≤◌, List, [], ◌∷◌, true, false, ◌==◌, inl, inr, length, take, drop, get_or, refl, ap, arith}
use Rattle.std.proofs.lemmas.Bool.{cases_Bool}
use Rattle.std.proofs.lemmas.Bool.Decides.{nat_tests}
use Rattle.sot_text.specs.LineEnds.{onto_first, lines, without_last, line_len}

-- a text less its last byte, where that is this one
pub without_taken : (c n x : ℕ) (bs : List ℕ) → length bs ≡ n + 1 → get_or bs n x ≡ c → take n bs ≡ without_last c bs
without_taken c n x [] len is = absurd (omega arith)
without_taken c zero x (b ∷ []) len is = (let same : (b == c) ≡ true = grind (arith, nat_tests) in rw same refl)
without_taken c (suc n) x (b ∷ []) len is = absurd (omega arith)
without_taken c zero x (b ∷ d ∷ bs) len is = absurd (omega arith)
without_taken c (suc n) x (b ∷ d ∷ bs) len is = ap (λ (l : List ℕ). b ∷ l) (without_taken c n x (d ∷ bs) (omega arith) is)

-- and where it is another
pub without_kept : (c n x : ℕ) (bs : List ℕ) → length bs ≡ n + 1 → get_or bs n x ≢ c → bs ≡ without_last c bs
without_kept c n x [] len is = absurd (omega arith)
without_kept c zero x (b ∷ []) len is = (let other : (b == c) ≡ false = grind (arith, nat_tests) in rw other refl)
without_kept c (suc n) x (b ∷ []) len is = absurd (omega arith)
without_kept c zero x (b ∷ d ∷ bs) len is = absurd (omega arith)
without_kept c (suc n) x (b ∷ d ∷ bs) len is = ap (λ (l : List ℕ). b ∷ l) (without_kept c n x (d ∷ bs) (omega arith) is)

pub line_len-pos : (bs : List ℕ) → 0 < length bs → 0 < line_len bs
line_len-pos [] some = absurd (omega arith)
line_len-pos (b ∷ bs) some = elim (cases_Bool (b == 10)) [ inl end ↦ rw end (omega arith) | inr more ↦ rw more (omega arith) ]

pub line_len-le : (bs : List ℕ) → line_len bs ≤ length bs
line_len-le [] = omega arith
line_len-le (b ∷ bs) = (let le = line_len-le bs in elim (cases_Bool (b == 10)) [ inl end ↦ rw end (omega arith) | inr more ↦ rw more (omega arith) ])

-- the first line, and the lines behind it
pub first_line : (bs : List ℕ) → 0 < length bs → lines bs ≡ take (line_len bs) bs ∷ lines (drop (line_len bs) bs)
first_line [] some = absurd (omega arith)
first_line (b ∷ []) some = elim (cases_Bool (b == 10)) [ inl end ↦ rw end refl | inr more ↦ rw more refl ]
first_line (b ∷ d ∷ bs) some =
    elim (cases_Bool (b == 10)) [
      | inl end ↦ rw end refl
      | inr more ↦ rw more (ap (onto_first b) (first_line (d ∷ bs) (omega arith)))
    ]
