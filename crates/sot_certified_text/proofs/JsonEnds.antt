-- JSON with a line end behind it is the same JSON.
use Rattle.std.proofs.Common.{◌≡◌, ℕ, ◌+◌, ◌-◌, ◌==◌, ◌&&◌, ◌||◌, not, nat_lt, Bool, true, false, cond, Option, None, Some, option_map, option_and_then, List}
use Rattle.std.proofs.Common.{[], ◌∷◌, ◌++◌, length, take, drop, inl, inr, refl, ap, ap₂, ◌∙◌, arith, length-append}
use Rattle.std.specs.Prelude.{nat_eq}
use Rattle.std.specs.Char.{is_ascii_digit, encode_utf8}
use Rattle.std.specs.List.{prefix_len, starts_with}
use Rattle.std.specs.Str.{is_utf8}
use Rattle.std.proofs.lemmas.Bool.{cases_Bool}
use Rattle.std.proofs.lemmas.List.{take-append-le, drop-append-le}
use Rattle.std.proofs.lemmas.List.Sums.{prefix_len-le-length}
use Rattle.std.proofs.lemmas.Str.{IsUtf8-append, IsUtf8-from_is_utf8, is_utf8-from_IsUtf8, IsUtf8-from_ascii}
use Rattle.std.proofs.lemmas.Str.Ascii.{IsAscii-nil, IsAscii-cons}
use Rattle.json.specs.Ascii as ascii
use Rattle.json.specs.Token.{Token, number, boolean, null, bad}
use Rattle.json.specs.Text.{Within, plain, after_backslash, after_u, after_high, content, code_unit, short_escape, prepend, is_high_surrogate, is_low_surrogate}
use Rattle.json.specs.Text.{surrogate_pair}
use Rattle.json.specs.Word.{head, ends_word, after_digits, after_minus, after_sign, after_whole, after_fraction, after_exponent, after_number, number_before}
use Rattle.json.specs.Word.{literal, word}
use Rattle.json.specs.Lex.{Lexeme, token, Class, quote, backslash, operator, space, other, class, operator_lexeme, string_token, Mode, between, in_word}
use Rattle.json.specs.Lex.{in_string, in_escape, lex_byte, lex, punctuate, fresh, tokens}
use Rattle.serde_json.specs.Data.{Data}
use Rattle.serde_json.specs.Read.{read}
use Rattle.sot_json.specs.Json.{json_of}
use Rattle.sot_certified_text.proofs.PlainTexts.{is_one_line, first_of, second_of, not_true}

-- a text and a line end
abbrev ended : List ℕ → List ℕ
ended t = t ++ 10 ∷ []

-- ---- strings

and_false : (b : Bool) → (b && false) ≡ false
and_false true = refl
and_false false = refl

same_arms : {A : Type 0} (b : Bool) (x : A) → cond b x x ≡ x
same_arms true x = refl
same_arms false x = refl

option_same : {A B : Type 0} (f g : A → Option B) → ((x : A) → f x ≡ g x) → (o : Option A) → option_and_then f o ≡ option_and_then g o
option_same f g same None = refl
option_same f g same (Some x) = same x

-- a line end is no hex digit
no_unit : (a b c : ℕ) → code_unit a b c 10 ≡ None
unfolding code_unit
no_unit a b c = rw and_false refl

content_ends : (w : Within) (xs : List ℕ) → content w (ended xs) ≡ content w xs
unfolding content short_escape
content_ends plain [] = refl
content_ends plain (x ∷ xs) =
    ap₂ (λ a b. cond (x == ascii.quote) (Some []) (cond (x == ascii.backslash) a (cond (nat_lt x ascii.space) None (prepend (x ∷ []) b))))
    (content_ends after_backslash xs) (content_ends plain xs)
content_ends after_backslash [] = refl
content_ends after_backslash (x ∷ xs) =
    ap₂ (λ a b. cond (x == ascii.lower_u) a (option_and_then (λ c. prepend (c ∷ []) b) (short_escape x))) (content_ends after_u xs) (content_ends plain xs)
content_ends after_u [] = refl
content_ends after_u (a ∷ []) = refl
content_ends after_u (a ∷ b ∷ []) = refl
content_ends after_u (a ∷ b ∷ c ∷ []) =
    ap (λ o. option_and_then (λ u. cond (is_high_surrogate u) (content (after_high u) [])
    (cond (is_low_surrogate u) None (prepend (encode_utf8 u) (content plain [])))) o) (no_unit a b c)
content_ends after_u (a ∷ b ∷ c ∷ d ∷ xs) =
    option_same (λ u. cond (is_high_surrogate u) (content (after_high u) (ended xs))
    (cond (is_low_surrogate u) None (prepend (encode_utf8 u) (content plain (ended xs)))))
    (λ u. cond (is_high_surrogate u) (content (after_high u) xs) (cond (is_low_surrogate u) None (prepend (encode_utf8 u) (content plain xs))))
    (λ u. ap₂ (λ p q. cond (is_high_surrogate u) p (cond (is_low_surrogate u) None (prepend (encode_utf8 u) q))) (content_ends (after_high u) xs)
    (content_ends plain xs))
    (code_unit a b c d)
content_ends (after_high h) [] = refl
content_ends (after_high h) (s ∷ []) = refl
content_ends (after_high h) (s ∷ u ∷ []) = refl
content_ends (after_high h) (s ∷ u ∷ a ∷ []) = refl
content_ends (after_high h) (s ∷ u ∷ a ∷ b ∷ []) = refl
content_ends (after_high h) (s ∷ u ∷ a ∷ b ∷ c ∷ []) =
    ap (λ o. cond ((s == ascii.backslash) && (u == ascii.lower_u))
    (option_and_then (λ l. cond (is_low_surrogate l) (prepend (encode_utf8 (surrogate_pair h l)) (content plain [])) None) o) None) (no_unit a b c)
    ∙ same_arms ((s == ascii.backslash) && (u == ascii.lower_u)) None
content_ends (after_high h) (s ∷ u ∷ a ∷ b ∷ c ∷ d ∷ xs) =
    ap (λ r. cond ((s == ascii.backslash) && (u == ascii.lower_u))
    (option_and_then (λ l. cond (is_low_surrogate l) (prepend (encode_utf8 (surrogate_pair h l)) r) None) (code_unit a b c d)) None) (content_ends plain xs)

-- ---- words

head_test : (t : List ℕ) (c : ℕ) → (10 == c) ≡ (32 == c) → (head (ended t) == c) ≡ (head t == c)
head_test [] c e = e
head_test (x ∷ xs) c e = refl

word_over : (t : List ℕ) → ends_word (ended t) ≡ ends_word t
word_over [] = refl
word_over (x ∷ xs) = refl

-- a name at the front of a text, with no more of a word behind it
abbrev is_literal : List ℕ → List ℕ → Bool
is_literal name t = starts_with nat_eq t name && ends_word (drop (length name) t)

literal_at : (name t : List ℕ) → is_one_line name ≡ true → is_literal name (ended t) ≡ is_literal name t
literal_at [] t one = word_over t
literal_at (n ∷ ns) [] one =
    let other : (n == 10) ≡ false = not_true (n == 10) (first_of (not (n == 10)) (is_one_line ns) one) in
    rw other refl
literal_at (n ∷ ns) (x ∷ xs) one = within (nat_eq n x) (literal_at ns xs (second_of (not (n == 10)) (is_one_line ns) one))
  where
    within : (b : Bool) → is_literal ns (ended xs) ≡ is_literal ns xs
        → ((b && starts_with nat_eq (ended xs) ns) && ends_word (drop (length ns) (ended xs)))
        ≡ ((b && starts_with nat_eq xs ns) && ends_word (drop (length ns) xs))
    within true e = e
    within false e = refl

-- ---- numbers

-- what is left of a text, and a line end
abbrev left : Option (List ℕ) → Option (List ℕ)
left o = option_map (λ t. ended t) o

pushed : (b : Bool) (s t : List ℕ) → cond b (ended s) (ended t) ≡ ended (cond b s t)
pushed true s t = refl
pushed false s t = refl

pushed_left : (b : Bool) (o p : Option (List ℕ)) → cond b (left o) (left p) ≡ left (cond b o p)
pushed_left true o p = refl
pushed_left false o p = refl

digits_same : (t : List ℕ) → prefix_len is_ascii_digit (ended t) ≡ prefix_len is_ascii_digit t
digits_same [] = refl
digits_same (x ∷ xs) = ap (λ n. cond (is_ascii_digit x) (1 + n) 0) (digits_same xs)

digits_end : (t : List ℕ) → after_digits (ended t) ≡ left (after_digits t)
digits_end t =
    let n : ℕ = prefix_len is_ascii_digit t in
    ap (λ k. cond (k == 0) None (Some (drop k (ended t)))) (digits_same t)
    ∙ ap (λ r. cond (n == 0) None (Some r)) (drop-append-le n t (10 ∷ []) (prefix_len-le-length is_ascii_digit t))
    ∙ pushed_left (n == 0) None (Some (drop n t))

minus_end : (t : List ℕ) → after_minus (ended t) ≡ ended (after_minus t)
minus_end [] = refl
minus_end (x ∷ xs) = pushed (x == ascii.minus) xs (x ∷ xs)

sign_end : (t : List ℕ) → after_sign (ended t) ≡ ended (after_sign t)
sign_end [] = refl
sign_end (x ∷ xs) = pushed ((x == ascii.minus) || (x == ascii.plus)) xs (x ∷ xs)

whole_end : (t : List ℕ) → after_whole (ended t) ≡ left (after_whole t)
whole_end [] = refl
whole_end (x ∷ xs) =
    ap (λ o. cond (x == ascii.zero) (Some (ended xs)) o) (digits_end (x ∷ xs)) ∙ pushed_left (x == ascii.zero) (Some xs) (after_digits (x ∷ xs))

fraction_end : (t : List ℕ) → after_fraction (ended t) ≡ left (after_fraction t)
fraction_end [] = refl
fraction_end (x ∷ xs) =
    ap (λ o. cond (x == ascii.dot) o (Some (ended (x ∷ xs)))) (digits_end xs) ∙ pushed_left (x == ascii.dot) (after_digits xs) (Some (x ∷ xs))

exponent_end : (t : List ℕ) → after_exponent (ended t) ≡ left (after_exponent t)
exponent_end [] = refl
exponent_end (x ∷ xs) =
    ap (λ o. cond ((x == ascii.lower_e) || (x == ascii.upper_e)) o (Some (ended (x ∷ xs)))) (ap after_digits (sign_end xs) ∙ digits_end (after_sign xs))
    ∙ pushed_left ((x == ascii.lower_e) || (x == ascii.upper_e)) (after_digits (after_sign xs)) (Some (x ∷ xs))

chained : (f : List ℕ → Option (List ℕ)) → ((t : List ℕ) → f (ended t) ≡ left (f t)) → (o : Option (List ℕ))
    → option_and_then f (left o) ≡ left (option_and_then f o)
chained f same None = refl
chained f same (Some t) = same t

number_end : (t : List ℕ) → after_number (ended t) ≡ left (after_number t)
unfolding after_number
number_end t =
    ap (λ o. option_and_then after_exponent (option_and_then after_fraction o)) (ap after_whole (minus_end t) ∙ whole_end (after_minus t))
    ∙ ap (option_and_then after_exponent) (chained after_fraction fraction_end (after_whole (after_minus t)))
    ∙ chained after_exponent exponent_end (option_and_then after_fraction (after_whole (after_minus t)))

number_same : (t : List ℕ) (o : Option (List ℕ)) → number_before (ended t) (left o) ≡ number_before t o
number_same t None = refl
number_same t (Some r) =
    let less : length (ended t) - length (ended r) ≡ length t - length r = omega (arith, length-append t (10 ∷ []), length-append r (10 ∷ [])) in
    let text : take (length (ended t) - length (ended r)) (ended t) ≡ take (length t - length r) t =
    ap (λ n. take n (ended t)) less ∙ take-append-le (length t - length r) t (10 ∷ []) (omega arith) in
    ap₂ (λ b s. cond b (number s) bad) (word_over r) text

either : (a b c d e f : Bool) (p q r s u v w x : Token) → a ≡ b → c ≡ d → e ≡ f → p ≡ q → r ≡ s → u ≡ v → w ≡ x
    → cond a p (cond c r (cond e u w)) ≡ cond b q (cond d s (cond f v x))
either a b c d e f p q r s u v w x h i j k l m n = cc

word_ends : (t : List ℕ) → word (ended t) ≡ word t
unfolding word
word_ends t =
    either (head (ended t) == ascii.lower_t) (head t == ascii.lower_t) (head (ended t) == ascii.lower_f) (head t == ascii.lower_f)
    (head (ended t) == ascii.lower_n) (head t == ascii.lower_n)
    (literal ascii.true_text (boolean true) (ended t)) (literal ascii.true_text (boolean true) t) (literal ascii.false_text (boolean false) (ended t))
    (literal ascii.false_text (boolean false) t)
    (literal ascii.null_text null (ended t)) (literal ascii.null_text null t) (number_before (ended t) (after_number (ended t)))
    (number_before t (after_number t))
    (head_test t ascii.lower_t refl) (head_test t ascii.lower_f refl) (head_test t ascii.lower_n refl)
    (ap (λ b. cond b (boolean true) bad) (literal_at ascii.true_text t refl)) (ap (λ b. cond b (boolean false) bad) (literal_at ascii.false_text t refl))
    (ap (λ b. cond b null bad) (literal_at ascii.null_text t refl))
    (ap (number_before (ended t)) (number_end t) ∙ number_same t (after_number t))

-- ---- tokens

byte_ends : (m : Mode) (c : Class) (x : ℕ) (xs : List ℕ) (k l : Mode → List Lexeme) → ((next : Mode) → k next ≡ l next) → word (x ∷ ended xs) ≡ word (x ∷ xs)
    → lex_byte m c x (ended xs) k ≡ lex_byte m c x xs l
byte_ends between quote x xs k l same w = ap₂ (λ o ls. token (string_token o) ∷ ls) (content_ends plain xs) (same in_string)
byte_ends between backslash x xs k l same w = ap (λ ls. token bad ∷ ls) (same in_word)
byte_ends between operator x xs k l same w = ap (λ ls. operator_lexeme x ∷ ls) (same between)
byte_ends between space x xs k l same w = same between
byte_ends between other x xs k l same w = ap₂ (λ t ls. token t ∷ ls) w (same in_word)
byte_ends in_word quote x xs k l same w = same in_word
byte_ends in_word backslash x xs k l same w = same in_word
byte_ends in_word operator x xs k l same w = ap (λ ls. operator_lexeme x ∷ ls) (same between)
byte_ends in_word space x xs k l same w = same between
byte_ends in_word other x xs k l same w = same in_word
byte_ends in_string quote x xs k l same w = same between
byte_ends in_string backslash x xs k l same w = same in_escape
byte_ends in_string operator x xs k l same w = same in_string
byte_ends in_string space x xs k l same w = same in_string
byte_ends in_string other x xs k l same w = same in_string
byte_ends in_escape c x xs k l same w = same in_string

lex_ends : (m : Mode) (xs : List ℕ) → lex m (ended xs) ≡ lex m xs
unfolding lex
lex_ends between [] = refl
lex_ends in_word [] = refl
lex_ends in_string [] = refl
lex_ends in_escape [] = refl
lex_ends m (x ∷ xs) = byte_ends m (class x) x xs (λ next. lex next (ended xs)) (λ next. lex next xs) (λ next. lex_ends next xs) (word_ends (x ∷ xs))

tokens_end : (bytes : List ℕ) → tokens (ended bytes) ≡ tokens bytes
tokens_end bytes = ap (punctuate fresh) (lex_ends between bytes)

read_ends : (bytes : List ℕ) → read (ended bytes) ≡ read bytes
read_ends bytes = rw (tokens_end bytes) refl

-- ---- the whole

utf8_ends : (bytes : List ℕ) → is_utf8 bytes ≡ true → is_utf8 (ended bytes) ≡ true
utf8_ends bytes is =
    is_utf8-from_IsUtf8 (ended bytes) (IsUtf8-append bytes (10 ∷ []) (IsUtf8-from_is_utf8 bytes is)
    (IsUtf8-from_ascii (10 ∷ []) (IsAscii-cons 10 [] (omega arith) IsAscii-nil)))

pub json_ends : (bytes : List ℕ) (d : Data) → json_of bytes ≡ Some d → json_of (ended bytes) ≡ Some d
json_ends bytes d is =
    elim (cases_Bool (is_utf8 bytes)) [
      | inl text ↦ rw (utf8_ends bytes text) (read_ends bytes ∙ rw text at is)
      | inr none ↦ (let never : None ≡ Some d = rw none at is in absurd cc)
    ]
