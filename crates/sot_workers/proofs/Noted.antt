-- What is noted of nodes.
use Rattle.std.proofs.Common.{◌≡◌, ℕ, zero, suc, ◌+◌, ◌<◌, Bool, false, List, [], ◌∷◌, ◌++◌, length}
use Rattle.std.proofs.Common.{refl, sym, ap, ◌∙◌, subst, arith, ⊎_elim, length-append}
use Rattle.std.specs.Prelude.{slice_index_or}
use Rattle.std.proofs.lemmas.Bool.{cases_eq}
use Rattle.sot_workers.specs.Threads.{AreNoted}
use Rattle.sot_workers.proofs.Stations.{index_behind}

index_before : (xs ys : List Bool) (n : ℕ) → n < length xs → slice_index_or (xs ++ ys) n false ≡ slice_index_or xs n false
index_before [] ys n lt = absurd (omega (arith, lt))
index_before (x ∷ xs) ys zero lt = refl
index_before (x ∷ xs) ys (suc n) lt = index_before xs ys n (omega (arith, lt))

pub none_noted : (holds : ℕ → Bool) → AreNoted 0 holds []
none_noted holds = record { each = refl; is = λ n lt. absurd (omega (arith, lt)) }

-- it is noted of one more
pub noted_more : (k : ℕ) (holds : ℕ → Bool) (noted : List Bool) (b : Bool) → AreNoted k holds noted → b ≡ holds k
    → AreNoted (k + 1) holds (noted ++ b ∷ [])
noted_more k holds noted b all one = record {
  each = (let size = length-append noted (b ∷ []) in omega (arith, size, all.each));
  is = λ n lt. ⊎_elim
      (λ same.
      let here : n ≡ length noted = same ∙ sym all.each in
      subst (λ i. slice_index_or (noted ++ b ∷ []) i false ≡ b) (sym here) (index_behind noted b []) ∙ (one ∙ ap holds (sym same)))
      (λ other.
      let before : n < k = omega (arith, lt, other) in
      index_before noted (b ∷ []) n (omega (arith, before, all.each)) ∙ all.is n before)
      (cases_eq n k);
}
