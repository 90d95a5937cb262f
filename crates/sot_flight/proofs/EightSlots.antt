-- A draft that is put into eight slots, one slot after another.
use Rattle.std.proofs.Common.{◌≡◌, ℕ, zero, suc, ◌+◌, ◌-◌, ◌<◌, List, [], ◌∷◌, ◌++◌, Option, None, length, take, sym, ap, ◌∙◌, arith}
use Rattle.std.specs.Prelude.{ℤ, replicate}
use Rattle.std.proofs.lemmas.List.{take_all}
use Rattle.std.proofs.lemmas.Option.{none-some, same_Some}
use Rattle.sot_lists.specs.Places.{At}
use Rattle.sot_code.specs.Recorded.{in_slots}

blank_from : (draft : List (Option ℤ)) (i n : ℕ) → At draft i None → take i draft ++ replicate (suc n) None ≡ take (suc i) draft ++ replicate n None
blank_from [] i n at = absurd (none-some None at)
blank_from (x ∷ xs) zero n at = ap (λ y. y ∷ replicate n None) (sym (same_Some x None at))
blank_from (x ∷ xs) (suc i) n at = ap (λ ys. x ∷ ys) (blank_from xs i n at)

-- .. or is left blank
pub blank_more : (draft : List (Option ℤ)) (i : ℕ) → At draft i None → i < 8
    → take i draft ++ replicate (8 - i) None ≡ take (i + 1) draft ++ replicate (8 - (i + 1)) None
blank_more draft i at lt =
    let e : 8 - i ≡ suc (8 - (i + 1)) = omega arith in
    let s : suc i ≡ i + 1 = omega arith in
    ap (λ n. take i draft ++ replicate n None) e ∙ blank_from draft i (8 - (i + 1)) at ∙ ap (λ k. take k draft ++ replicate (8 - (i + 1)) None) s

-- all are drafted
pub put_all : (draft : List (Option ℤ)) (i : ℕ) → i ≡ length draft → take i draft ++ replicate (8 - i) None ≡ in_slots draft
put_all draft i is =
    ap (λ n. take n draft ++ replicate (8 - n) None) is ∙ ap (λ l. l ++ replicate (8 - length draft) None) (take_all (length draft) draft (omega arith))
