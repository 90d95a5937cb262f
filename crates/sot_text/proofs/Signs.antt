-- The longest sign at the front is known by the first two bytes.
use Rattle.std.proofs.Common.{◌≡◌, ℕ, max, List, [], ◌∷◌, ◌++◌, Bool, true, false, cond, ◌&&◌, ◌||◌, ◌==◌, length, map, refl, sym, ap, ◌∙◌, arith}
use Rattle.std.proofs.Math.Bool.{or_assoc, and_assoc}
use Rattle.std.specs.List.{list_any}
use Rattle.sot_text.specs.Lexeme.{stands_at, longest, long_signs, sign_characters, sign_len}
use Rattle.sot_text.specs.Inside.{is_long_sign, is_short_sign, sign_by_two}

longest-append : (xs ys : List (List ℕ)) (bs : List ℕ) → longest (xs ++ ys) bs ≡ max (longest xs bs) (longest ys bs)
longest-append [] ys bs = omega arith
longest-append (x ∷ xs) ys bs =
    let more = longest-append xs ys bs in
    let here : ℕ = cond (stands_at x bs) (length x) 0 in
    ap (λ n. max here n) more ∙ omega arith

pub and_false : (b : Bool) → (b && false) ≡ false
and_false true = refl
and_false false = refl

and_true : (b : Bool) → (b && true) ≡ b
and_true true = refl
and_true false = refl

-- of the signs of one character
longest_character : (cs : List ℕ) (a : ℕ) (bs : List ℕ) → longest (map (λ c. c ∷ []) cs) (a ∷ bs) ≡ cond (list_any (λ s. a == s) cs) 1 0
longest_character [] a bs = refl
longest_character (c ∷ cs) a bs =
    ap (λ n. max (cond (a == c && true) 1 0) n) (longest_character cs a bs)
    ∙ ap (λ t. max (cond t 1 0) (cond (list_any (λ s. a == s) cs) 1 0)) (and_true (a == c)) ∙ joined (a == c) (list_any (λ s. a == s) cs)
  where
    joined : (p q : Bool) → max (cond p 1 0) (cond q 1 0) ≡ cond (p || q) 1 0
    joined true true = refl
    joined true false = refl
    joined false true = refl
    joined false false = refl

longest_character_none : (cs : List ℕ) → longest (map (λ c. c ∷ []) cs) [] ≡ 0
longest_character_none [] = refl
longest_character_none (c ∷ cs) = ap (λ n. max 0 n) (longest_character_none cs)

or_false : (b : Bool) → (b || false) ≡ b
or_false true = refl
or_false false = refl

one_more : (p q : Bool) (m : ℕ) → m ≡ cond q 2 0 → max (cond (p && true) 2 0) m ≡ cond (p || q) 2 0
one_more true true m e = omega arith
one_more true false m e = omega arith
one_more false true m e = omega arith
one_more false false m e = omega arith

-- six texts of two bytes
longest_of_six : (p q r s t u : Bool)
    → max (cond (p && true) 2 0) (max (cond (q && true) 2 0)
    (max (cond (r && true) 2 0) (max (cond (s && true) 2 0) (max (cond (t && true) 2 0) (max (cond (u && true) 2 0) 0)))))
    ≡ cond (p || q || r || s || t || u) 2 0
longest_of_six p q r s t u =
    let f = one_more u false 0 refl in
    let e = one_more t (u || false) _ f in
    let d = one_more s (t || (u || false)) _ e in
    let c = one_more r (s || (t || (u || false))) _ d in
    let b = one_more q (r || (s || (t || (u || false)))) _ c in
    let a = one_more p (q || (r || (s || (t || (u || false))))) _ b in
    let same : (p || (q || (r || (s || (t || (u || false)))))) ≡ (p || q || r || s || t || u) = simp (or_false, or_assoc) in
    a ∙ ap (λ v. cond v 2 0) same

over : (p q : Bool) → max (cond p 2 0) (cond q 1 0) ≡ cond p 2 (cond q 1 0)
over true true = refl
over true false = refl
over false true = refl
over false false = refl

longest_long : (a b : ℕ) (bs : List ℕ) → longest long_signs (a ∷ b ∷ bs) ≡ cond (is_long_sign a b) 2 0
longest_long a b bs =
    let second : (n m : ℕ) → (a == n && (b == m && true)) ≡ (a == n && b == m && true) = λ n m. simp and_assoc in
    simp second (longest_of_six (a == 58 && b == 61) (a == 46 && b == 46) (a == 60 && b == 61) (a == 62 && b == 61) (a == 61 && b == 61) (a == 33 && b == 61))

-- no sign of two bytes fits one
longest_long_one : (a : ℕ) → longest long_signs (a ∷ []) ≡ 0
longest_long_one a =
    let none : (n : ℕ) → (a == n && false) ≡ false = λ n. and_false (a == n) in
    simp none refl

no_sign : sign_len [] ≡ 0
unfolding sign_len
no_sign = longest-append long_signs (map (λ c. c ∷ []) sign_characters) [] ∙ ap (λ n. max 0 n) (longest_character_none sign_characters)

one_byte : (a : ℕ) → sign_len (a ∷ []) ≡ cond (is_short_sign a) 1 0
unfolding sign_len
one_byte a =
    longest-append long_signs (map (λ c. c ∷ []) sign_characters) (a ∷ [])
    ∙ ap (λ n. max n (longest (map (λ c. c ∷ []) sign_characters) (a ∷ []))) (longest_long_one a)
    ∙ ap (λ n. max 0 n) (longest_character sign_characters a [])
    ∙ omega arith

two_bytes : (a b : ℕ) (bs : List ℕ) → sign_len (a ∷ b ∷ bs) ≡ cond (is_long_sign a b) 2 (cond (is_short_sign a) 1 0)
unfolding sign_len
two_bytes a b bs =
    longest-append long_signs (map (λ c. c ∷ []) sign_characters) (a ∷ b ∷ bs)
    ∙ ap (λ n. max n (longest (map (λ c. c ∷ []) sign_characters) (a ∷ b ∷ bs))) (longest_long a b bs)
    ∙ ap (λ n. max (cond (is_long_sign a b) 2 0) n) (longest_character sign_characters a (b ∷ bs))
    ∙ over (is_long_sign a b) (is_short_sign a)

pub by_two : (bs : List ℕ) → sign_by_two bs ≡ sign_len bs
by_two [] = sym no_sign
by_two (a ∷ []) = sym (one_byte a)
by_two (a ∷ b ∷ bs) = sym (two_bytes a b bs)
