-- What it means that a reader of pieces answers, and that it finds the bytes that stand in front.
use Rattle.std.proofs.Common.{◌≡◌, ℕ, ◌+◌, ◌==◌, true, false, List, [], ◌∷◌, ◌++◌, Option, Some, None, Bor, length, take, drop, inl, inr, refl, sym, ap, ◌∙◌}
use Rattle.std.proofs.Common.{arith}
use Rattle.std.specs.Prelude.{MatchOption, nat_eq}
use Rattle.std.specs.Option.{option_map}
use Rattle.std.specs.Cmp.Lexicographic.{pointwise}
use Rattle.std.proofs.lemmas.Bool.{cases_Bool, cond-true, cond-false}
use Rattle.std.proofs.lemmas.Bool.Decides.{nat_tests, Decides-eqb}
use Rattle.std.proofs.lemmas.Slice.Eq.{strip_prefix_is}
use Rattle.std.proofs.lemmas.Option.{same_Some}
use Rattle.sot_trace_lines.specs.Pieces.{◌>>=◌, behind, at_end}

-- an answer goes through both steps
pub both : {A B : Type 0} (o : Option A) (f : A → Option B) (y : B) → (o >>= f) ≡ Some y → (x : A) × (o ≡ Some x) × (f x ≡ Some y)
both None f y e = absurd cc
both (Some x) f y e = (x, refl, e)

-- after the first answer comes the second step
pub then_next : {A B : Type 0} (o : Option A) (f : A → Option B) (x : A) → o ≡ Some x → (o >>= f) ≡ f x
then_next o f x e = ap (λ a. a >>= f) e

-- two answers that are the same have the same parts
pub parts_same : {A B : Type 0} (x y : A) (u v : B) → ◌≡◌ {A = Option (A × B)} (Some (x, u)) (Some (y, v)) → (x ≡ y) × (u ≡ v)
parts_same {A} {B} x y u v e = (ap (λ (q : A × B). q.0) (same_Some _ _ e), ap (λ (q : A × B). q.1) (same_Some _ _ e))

pub is_ended : {A : Type 0} (x y : A) (text : List ℕ) → at_end x text ≡ Some y → (text ≡ []) × (x ≡ y)
is_ended x y [] e = (refl, cc)
is_ended x y (b ∷ bs) e = absurd cc

pub same_code : (b c : ℕ) → (b == c) ≡ true → b ≡ c
same_code b c e = grind (arith, nat_tests)

one_code : (c : ℕ) → (c == c) ≡ true
one_code c = grind (arith, nat_tests)

-- what stands behind some bytes is read behind them
pub behind_them : (front rest : List ℕ) → behind front (front ++ rest) ≡ Some rest
behind_them [] rest = refl
behind_them (c ∷ cs) rest = cond-true (c == c) _ _ (one_code c) ∙ behind_them cs rest

-- .. and they stand in front of what is read so
pub in_front : (front text rest : List ℕ) → behind front text ≡ Some rest → text ≡ front ++ rest
in_front [] text rest e = cc
in_front (c ∷ cs) [] rest e = absurd cc
in_front (c ∷ cs) (b ∷ bs) rest e =
    elim (cases_Bool (b == c)) [
      | inl yes' ↦ (
          let first : b ≡ c = same_code b c yes' in
          let more : bs ≡ cs ++ rest = in_front cs bs rest (sym (cond-true (b == c) _ _ yes') ∙ e) in
          cc
          )
      | inr no' ↦ (let never : None ≡ Some rest = sym (cond-false (b == c) _ _ no') ∙ e in absurd cc)
    ]

-- what `strip_prefix` answers is what stands behind
pub stripped : (text front : List ℕ) (r : Option (Bor (List ℕ)))
    → MatchOption r (pointwise nat_eq (take (length front) text) front ≡ false)
    (λ x. (pointwise nat_eq (take (length front) text) front ≡ true) × (x.now ≡ drop (length front) text) × (length x.now + length front ≡ length text))
    → option_map (λ rest. rest.now) r ≡ behind front text
stripped text front (Some x) is = sym (ap (behind front) (strip_prefix_is Decides-eqb text front (Some x) is) ∙ behind_them front x.now)
stripped text front None is = nothing (behind front text) refl
  where
    nothing : (o : Option (List ℕ)) → behind front text ≡ o → None ≡ o
    nothing None e = refl
    nothing (Some rest) e = absurd (strip_prefix_is Decides-eqb text front None is rest (in_front front text rest e))
