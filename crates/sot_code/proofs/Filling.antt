-- Slots that are filled one after another.
use Rattle.std.proofs.Common.{◌≡◌, ℕ, suc, ◌+◌, ◌-◌, ◌<◌, ℤ, List, [], ◌∷◌, ◌++◌, length, take, drop, replicate, get_or, refl, ap, ap₂, append_assoc, sym, ◌∙◌}
use Rattle.std.proofs.Common.{arith, FitsSigned, to_z, of_z, w64, zero, Option, None}
use Rattle.std.proofs.Math.ListN.{set}
use Rattle.std.specs.Prelude.{Some, slice_get, slice_set}
use Rattle.std.proofs.lemmas.Option.{get_or_from_slice_get, none-some, same_Some}
use Rattle.std.proofs.lemmas.Int.{to_z-of_z}
use Rattle.std.proofs.lemmas.List.{take_more, take_more_set, drop_more, drop-set-lt}
use Rattle.sot_lists.specs.Places.{At}

pub read_word : (z : ℤ) → FitsSigned w64 z → to_z w64 (of_z w64 z) ≡ z
read_word z f = to_z-of_z w64 z f

module _ {A : Type 0} where
  -- one more part is copied
  pub taken_more : (slots parts : List A) (i : ℕ) (d x : A) → i < length slots → i < length parts → take i slots ≡ take i parts → x ≡ get_or parts i d
      → take (i + 1) (set slots i x) ≡ take (i + 1) parts
  taken_more slots parts i d x lt below same is =
      take_more_set slots i x lt ∙ ap₂ (λ l y. l ++ y ∷ []) same is ∙ sym (take_more parts i d below)

  tail : List A → List A
  tail [] = []
  tail (x ∷ xs) = xs

  replicate_less : (n i : ℕ) (z : A) → i < n → tail (replicate (n - i) z) ≡ replicate (n - (i + 1)) z
  unfolding tail
  replicate_less n i z lt = (let e : n - i ≡ suc (n - (i + 1)) = omega arith in rw e refl)

  -- the slots behind stay as they are
  pub rest_more : (n : ℕ) (slots : List A) (i : ℕ) (z x : A) → length slots ≡ n → i < n → drop i slots ≡ replicate (n - i) z
      → drop (i + 1) (set slots i x) ≡ replicate (n - (i + 1)) z
  unfolding tail
  rest_more n slots i z x size lt rest =
      let below : i < length slots = omega arith in
      drop-set-lt (i + 1) slots i x (omega arith)
      ∙ ap tail (sym (drop_more slots i z below) ∙ rest) ∙ replicate_less n i z lt

  single : (part : List A) (x : A) → length part ≡ 1 → slice_get part 0 ≡ Some x → part ≡ x ∷ []
  single [] x size at = absurd (none-some x at)
  single (y ∷ []) x size at = ap (λ z. z ∷ []) (same_Some y x at)
  single (y ∷ z ∷ zs) x size at = absurd (omega arith)

  -- a list of one is put behind others
  pub one_behind : (slots before part : List A) (from : ℕ) (x : A) → length part ≡ 1 → slice_get part 0 ≡ Some x → take (from + 1) slots ≡ before ++ x ∷ []
      → take (from + length part) slots ≡ before ++ part
  one_behind slots before part from x size at front =
      ap (λ n. take (from + n) slots) size ∙ front ∙ ap (λ l. before ++ l) (sym (single part x size at))

  -- one more part is copied behind others
  pub taken_behind : (slots parts before : List A) (from i : ℕ) (x : A) → from + i < length slots → i < length parts
      → take (from + i) slots ≡ before ++ take i parts → slice_get parts i ≡ Some x
      → take (from + (i + 1)) (set slots (from + i) x) ≡ before ++ take (i + 1) parts
  taken_behind slots parts before from i x lt below same is =
      let e : from + (i + 1) ≡ from + i + 1 = omega arith in
      let here : get_or parts i x ≡ x = get_or_from_slice_get parts i x x is in
      ap (λ n. take n (set slots (from + i) x)) e ∙ take_more_set slots (from + i) x lt
      ∙ ap (λ l. l ++ x ∷ []) same ∙ append_assoc before (take i parts) (x ∷ [])
      ∙ ap (λ l. before ++ l) (ap (λ y. take i parts ++ y ∷ []) (sym here) ∙ sym (take_more parts i x below))

put_from : (draft : List (Option ℤ)) (i n : ℕ) (slot : Option ℤ) → At draft i slot
    → slice_set (take i draft ++ replicate (suc n) None) i slot ≡ take (suc i) draft ++ replicate n None
put_from [] i n slot at = absurd (none-some slot at)
put_from (x ∷ xs) zero n slot at = ap (λ y. y ∷ replicate n None) (sym (same_Some x slot at))
put_from (x ∷ xs) (suc i) n slot at = ap (λ ys. x ∷ ys) (put_from xs i n slot at)

-- one slot more of a draft is put into eight
pub put_more : (draft : List (Option ℤ)) (i : ℕ) (slot : Option ℤ) → At draft i slot → i < 8
    → slice_set (take i draft ++ replicate (8 - i) None) i slot ≡ take (i + 1) draft ++ replicate (8 - (i + 1)) None
put_more draft i slot at lt =
    let e : 8 - i ≡ suc (8 - (i + 1)) = omega arith in
    let s : suc i ≡ i + 1 = omega arith in
    ap (λ n. slice_set (take i draft ++ replicate n None) i slot) e
    ∙ put_from draft i (8 - (i + 1)) slot at
    ∙ ap (λ k. take k draft ++ replicate (8 - (i + 1)) None) s
