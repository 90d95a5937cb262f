-- The words of literals, names, lists and types are tokens that may follow one another.
use Rattle.std.proofs.Common.{◌≡◌, ℕ, ◌≤◌, ◌^◌, ◌==◌, nat_lt, ◌&&◌, ◌||◌, Bool, true, false, cond, Option, None, Some, List, [], ◌∷◌, ◌++◌, length, codes, pos}
use Rattle.std.proofs.Common.{int_lt, unsigned_abs, inl, inr, refl, sym, ap, ◌∙◌, subst, arith}
use Rattle.std.specs.Char.{is_ascii_digit}
use Rattle.std.proofs.lemmas.Bool.{cases_Bool, cond-true, cond-false}
use Rattle.std.proofs.lemmas.Bool.Decides.{nat_tests}
use Rattle.sot_text.specs.declared.token.Kind.{Kind}
use Rattle.sot_text.specs.declared.token.Kind.TheVariants.{Name, Keyword, Number, Sign}
use Rattle.sot_text.specs.declared.lexeme.Front.TheVariants.{Token, BadByte, LiteralWide}
use Rattle.sot_text.specs.Lexeme.{begins_word, decimals_of, mantissa_of, number_len, sign_len, sized, front, sign, IsTokenText}
use Rattle.sot_text.specs.Inside.{is_long_sign, sign_by_two}
use Rattle.sot_text.proofs.Signs.{by_two}
use Rattle.sot_text.proofs.Fronts.{front_number, front_sign}
use Rattle.sot_syntax_tree.specs.declared.tree.Ident.{Ident}
use Rattle.sot_syntax_tree.specs.declared.tree.Lit.{Lit}
use Rattle.sot_syntax_tree.specs.declared.tree.Bounds.{Bounds}
use Rattle.sot_syntax_tree.specs.declared.tree.Scalar.{Scalar}
use Rattle.sot_syntax_tree.specs.declared.tree.Scalar.TheVariants.{Int, Fix, Bool as Truths}
use Rattle.sot_syntax_tree.specs.declared.tree.Field.{Field}
use Rattle.sot_syntax_tree.specs.declared.tree.Const.{Const}
use Rattle.sot_syntax_tree.specs.declared.tree.Const.TheVariants.{Number as Numeral, Truth}
use Rattle.sot_print.specs.declared.gap.Gap.{Gap}
use Rattle.sot_print.specs.declared.gap.Gap.TheVariants.{Touching, Space}
use Rattle.sot_print.specs.Words.{Word, keyword, sign as a_sign, name, number}
use Rattle.sot_print.specs.Leaves.{numeral, literal_words, ident_words, reference_words, truth_words, constant_words, items_from, listed, bounds_words}
use Rattle.sot_print.specs.Leaves.{range_words, fixed_words, scalar_words, field_words}
use Rattle.sot_syntax_tree.specs.Formed.{Each, IsName, IsLiteral, IfThere, AreBounds, IsScalar, IsField, IsConst}
use Rattle.sot_print.proofs.NumeralTexts.{numeral_read, numeral_token}
use Rattle.sot_print.proofs.Ends.{front_goes, word_goes}
use Rattle.sot_print.proofs.Sits.{IsTok, Sits, SitsAnywhere, Enters, spaced, ended, then_word, joined, choice, sign_token, closes, opens, round_ends}
use Rattle.sot_print.proofs.Sits.{square_ends, minus_ends, dots_ends}

-- numbers and signs are no names, and signs are no numbers
sized_kind : (kind : Kind) (d m k n : ℕ) → sized d m k ≡ Token kind n → Number ≡ kind
sized_kind kind d m k n e =
    elim (cases_Bool (nat_lt 6 d || nat_lt (10 ^ 12) m)) [
      | inl wide ↦ (let never : LiteralWide k ≡ Token kind n = sym (cond-true (nat_lt 6 d || nat_lt (10 ^ 12) m) _ _ wide) ∙ e in absurd cc)
      | inr fits ↦ (let same : Token Number k ≡ Token kind n = sym (cond-false (nat_lt 6 d || nat_lt (10 ^ 12) m) _ _ fits) ∙ e in cc)
    ]

sign_kind : (kind : Kind) (k n : ℕ) → sign k ≡ Token kind n → Sign ≡ kind
sign_kind kind k n e =
    elim (cases_Bool (k == 0)) [
      | inl none ↦ (let never : BadByte ≡ Token kind n = sym (cond-true (k == 0) _ _ none) ∙ e in absurd cc)
      | inr some ↦ (let same : Token Sign k ≡ Token kind n = sym (cond-false (k == 0) _ _ some) ∙ e in cc)
    ]

number_not_name : Number ≡ Name → ⊥
number_not_name e = cc

sign_not_name : Sign ≡ Name → ⊥
sign_not_name e = cc

sign_not_number : Sign ≡ Number → ⊥
sign_not_number e = cc

-- a name begins with a letter or '_'
name_begins : (a : ℕ) (as_ : List ℕ) → IsTokenText Name (a ∷ as_) → begins_word a ≡ true
name_begins a as_ is =
    elim (cases_Bool (begins_word a)) [
      | inl first ↦ first
      | inr no_word ↦
          elim (cases_Bool (is_ascii_digit a)) [
            | inl digit ↦ absurd (number_not_name (sized_kind Name (decimals_of (a ∷ as_)) (mantissa_of (a ∷ as_)) (number_len (a ∷ as_)) _
                (sym (front_number a as_ no_word digit) ∙ is)))
            | inr no_digit ↦ absurd (sign_not_name (sign_kind Name (sign_len (a ∷ as_)) _ (sym (front_sign a as_ no_word no_digit) ∙ is)))
          ]
    ]

-- a point may stand directly behind a name
name_point : (text rest : List ℕ) → IsTokenText Name text → front (text ++ (46 ∷ rest)) ≡ Token Name (length text)
name_point [] rest is = absurd cc
name_point (a ∷ as_) rest is = word_goes a as_ (46 ∷ rest) Name (name_begins a as_ is) is refl

no_point : (a : ℕ) → IsTokenText Number (a ∷ []) → (a == 46) ≡ false
no_point a is =
    elim (cases_Bool (a == 46)) [
      | inl point ↦
          let e : a ≡ 46 = grind (arith, nat_tests) in
          let point_is : IsTokenText Number (46 ∷ []) = subst (λ (b : ℕ). IsTokenText Number (b ∷ [])) e is in
          absurd (sign_not_number (sign_kind Number (sign_len (46 ∷ [])) _ (sym (front_sign 46 [] refl refl) ∙ point_is)))
      | inr other ↦ other
    ]

second_point : (p q r s t u : Bool) → q ≡ false → (p && false || q && true || r && false || s && false || t && false || u && false) ≡ false
second_point p q r s t u e = rw e (six p r s t u)
  where
    none : (b : Bool) → (b && false) ≡ false
    none true = refl
    none false = refl

    six : (p r s t u : Bool) → (p && false || false || r && false || s && false || t && false || u && false) ≡ false
    six p r s t u = simp none

-- two points may stand directly behind a number
number_dots : (text rest : List ℕ) → IsTokenText Number text → front (text ++ (46 ∷ 46 ∷ rest)) ≡ Token Number (length text)
number_dots [] rest is = absurd cc
number_dots (a ∷ as_) rest is = front_goes Number (a ∷ as_) (46 ∷ 46 ∷ rest) is (record { word = refl; digits = refl; decimals = refl; signs = same as_ is })
  where
    same : (as_ : List ℕ) → IsTokenText Number (a ∷ as_) → sign_by_two ((a ∷ as_) ++ (46 ∷ 46 ∷ rest)) ≡ sign_by_two (a ∷ as_)
    same [] is = cond-false (is_long_sign a 46) _ _ (second_point (a == 58) (a == 46) (a == 60) (a == 62) (a == 61) (a == 33) (no_point a is))
    same (c ∷ cs) is = refl

-- literals: the numeral of one is a number token
literal_token : (l : Lit) → IsLiteral l → IsTokenText Number (numeral (unsigned_abs l.mantissa) l.scale)
literal_token l is =
    let small : unsigned_abs l.mantissa ≤ 10 ^ 12 = is.mantissa in
    numeral_token (unsigned_abs l.mantissa) l.scale (numeral (unsigned_abs l.mantissa) l.scale) small is.scale
    (numeral_read (unsigned_abs l.mantissa) l.scale (omega (arith, small)))

minus_sits : (a : Word) (gap : Gap) (text : List ℕ) → Enters a gap → IsTokenText Number text → Sits a (a_sign gap (codes "-") ∷ number Touching text ∷ [])
minus_sits a gap text enters is =
    let minus : IsTok (a_sign gap (codes "-")) = sign_token (codes "-") refl in
    then_word minus (enters (a_sign gap (codes "-")) minus)
    (then_word is (opens gap (codes "-") refl minus_ends (number Touching text) is) (ended (number Touching text) is))

pub literal_sits : (l : Lit) (a : Word) (gap : Gap) → IsLiteral l → Enters a gap → Sits a (literal_words gap l)
literal_sits l a gap formed enters =
    let text : List ℕ = numeral (unsigned_abs l.mantissa) l.scale in
    let is : IsTokenText Number text = literal_token l formed in
    choice (int_lt l.mantissa (pos 0)) (a_sign gap (codes "-") ∷ number Touching text ∷ []) (number gap text ∷ [])
    (minus_sits a gap text enters is) (then_word is (enters (number gap text) is) (ended (number gap text) is))

-- the ends of a range
number_sits : (a : Word) (gap : Gap) (text : List ℕ) (hi : Lit) → Enters a gap → IsTokenText Number text → IsLiteral hi
    → Sits a (number gap text ∷ a_sign Touching (codes "..") ∷ literal_words Touching hi)
number_sits a gap text hi enters is hi_is =
    then_word is (enters (number gap text) is)
    (then_word (sign_token (codes "..") refl) (λ rest. number_dots text rest is)
    (literal_sits hi (a_sign Touching (codes "..")) Touching hi_is (opens Touching (codes "..") refl dots_ends)))

minus_bounds : (a : Word) (gap : Gap) (text : List ℕ) (hi : Lit) → Enters a gap → IsTokenText Number text → IsLiteral hi
    → Sits a (a_sign gap (codes "-") ∷ number Touching text ∷ a_sign Touching (codes "..") ∷ literal_words Touching hi)
minus_bounds a gap text hi enters is hi_is =
    let minus : IsTok (a_sign gap (codes "-")) = sign_token (codes "-") refl in
    then_word minus (enters (a_sign gap (codes "-")) minus)
    (number_sits (a_sign gap (codes "-")) Touching text hi (opens gap (codes "-") refl minus_ends) is hi_is)

-- the low end is one word or two
with_sign : {a : Word} (b : Bool) (gap : Gap) (text : List ℕ) (more : List Word) → Sits a (a_sign gap (codes "-") ∷ number Touching text ∷ more)
    → Sits a (number gap text ∷ more)
    → Sits a (cond b (a_sign gap (codes "-") ∷ number Touching text ∷ []) (number gap text ∷ []) ++ more)
with_sign true gap text more yes_ no_ = yes_
with_sign false gap text more yes_ no_ = no_

pub bounds_sits : (b : Bounds) (a : Word) (gap : Gap) → AreBounds b → Enters a gap → Sits a (bounds_words gap b)
bounds_sits b a gap is enters =
    let text : List ℕ = numeral (unsigned_abs b.lo.mantissa) b.lo.scale in
    with_sign (int_lt b.lo.mantissa (pos 0)) gap text (a_sign Touching (codes "..") ∷ literal_words Touching b.hi)
    (minus_bounds a gap text b.hi enters (literal_token b.lo is.0) is.1) (number_sits a gap text b.hi enters (literal_token b.lo is.0) is.1)

-- names
pub ident_sits : (i : Ident) (a : Word) (gap : Gap) → IsName i → Enters a gap → Sits a (ident_words gap i)
ident_sits i a gap is enters = then_word is (enters (name gap i.name) is) (ended (name gap i.name) is)

-- a name directly behind a point
point_enters : (text rest : List ℕ) → IsTokenText Name text → front (46 ∷ (text ++ rest)) ≡ Token Sign 1
point_enters [] rest is = absurd cc
point_enters (b ∷ bs) rest is =
    let word : begins_word b ≡ true = name_begins b bs is in
    let other : (b == 46) ≡ false = point_not b word in
    front_sign 46 (b ∷ (bs ++ rest)) refl refl
    ∙ ap sign (sym (by_two (46 ∷ b ∷ (bs ++ rest))) ∙ ap (λ (t : Bool). cond (t || false || false || false || false) 2 1) other)
  where
    point_not : (b : ℕ) → begins_word b ≡ true → (b == 46) ≡ false
    point_not b word =
        elim (cases_Bool (b == 46)) [
          | inl point ↦
              let e : b ≡ 46 = grind (arith, nat_tests) in
              let never : begins_word 46 ≡ true = subst (λ (c : ℕ). begins_word c ≡ true) e word in
              absurd cc
          | inr other ↦ other
        ]

pub reference_sits : (first : Ident) (field : Option Ident) (a : Word) (gap : Gap) → IsName first → IfThere IsName field → Enters a gap
    → Sits a (reference_words gap first field)
reference_sits first None a gap is there enters = ident_sits first a gap is enters
reference_sits first (Some field) a gap is there enters =
    then_word is (enters (name gap first.name) is)
    (then_word (sign_token (codes ".") refl) (λ rest. name_point first.name rest is)
    (then_word there (λ rest. point_enters field.name rest there) (ended (name Touching field.name) there)))

truth_word : (value : Bool) → IsTokenText Keyword (cond value (codes "true") (codes "false"))
truth_word true = refl
truth_word false = refl

pub truth_sits : (value : Bool) (a : Word) (gap : Gap) → Enters a gap → Sits a (truth_words gap value)
truth_sits value a gap enters =
    let text : List ℕ = cond value (codes "true") (codes "false") in
    then_word (truth_word value) (enters (keyword gap text) (truth_word value)) (ended (keyword gap text) (truth_word value))

pub constant_sits : (c : Const) (a : Word) (gap : Gap) → IsConst c → Enters a gap → Sits a (constant_words gap c)
constant_sits (Numeral l) a gap is enters = literal_sits l a gap is enters
constant_sits (Truth value at) a gap is enters = truth_sits value a gap enters

-- lists
further_sits : {A : Type 0} (item : Gap → A → List Word) (P : A → Type 0) → ((x : A) (a : Word) (gap : Gap) → P x → Enters a gap → Sits a (item gap x))
    → (gap : Gap) (xs : List A) → Each P xs
    → SitsAnywhere (items_from item gap false xs)
further_sits item P sits gap [] all = ended
further_sits item P sits gap (x ∷ xs) all =
    λ v tok. joined (a_sign Touching (codes ",") ∷ item Space x) (items_from item gap false xs)
    (closes (codes ",") (item Space x) refl refl (sits x (a_sign Touching (codes ",")) Space all.0 (spaced (a_sign Touching (codes ",")))) v tok)
    (further_sits item P sits gap xs all.1)

pub listed_sits : {A : Type 0} (item : Gap → A → List Word) (P : A → Type 0) → ((x : A) (a : Word) (gap : Gap) → P x → Enters a gap → Sits a (item gap x))
    → (xs : List A) (a : Word) (gap : Gap) → IsTok a → Each P xs → Enters a gap
    → Sits a (listed item gap xs)
listed_sits item P sits [] a gap tok all enters = ended a tok
listed_sits item P sits (x ∷ xs) a gap tok all enters =
    joined (item gap x) (items_from item gap false xs) (sits x a gap all.0 enters) (further_sits item P sits gap xs all.1)

-- types
close : (text : List ℕ) → IsTokenText Sign text → Sits (a_sign Touching text) []
close text is = ended (a_sign Touching text) is

pub range_sits : (b : Bounds) → AreBounds b → SitsAnywhere (range_words b)
range_sits b is =
    λ v tok. joined (a_sign Touching (codes "[") ∷ bounds_words Touching b) (a_sign Touching (codes "]") ∷ [])
    (closes (codes "[") (bounds_words Touching b) refl refl
    (bounds_sits b (a_sign Touching (codes "[")) Touching is (opens Touching (codes "[") refl square_ends)) v tok)
    (closes (codes "]") [] refl refl (close (codes "]") (sign_token (codes "]") refl)))

pub fixed_sits : (scale : Lit) (a : Word) → IsLiteral scale → Sits a (fixed_words scale)
fixed_sits scale a is =
    joined (keyword Space (codes "fix") ∷ a_sign Touching (codes "(") ∷ literal_words Touching scale) (a_sign Touching (codes ")") ∷ [])
    (then_word refl tt (closes (codes "(") (literal_words Touching scale) refl refl
    (literal_sits scale (a_sign Touching (codes "(")) Touching is (opens Touching (codes "(") refl round_ends)) (keyword Space (codes "fix")) refl))
    (closes (codes ")") [] refl refl (close (codes ")") (sign_token (codes ")") refl)))

pub scalar_sits : (s : Scalar) (a : Word) → IsScalar s → Sits a (scalar_words s)
scalar_sits (Int b) a is = then_word refl tt (range_sits b is (keyword Space (codes "int")) refl)
scalar_sits (Fix scale b) a is = joined (fixed_words scale) (range_words b) (fixed_sits scale a is.0.0) (range_sits b is.1)
scalar_sits (Truths at) a is = then_word refl tt (ended (keyword Space (codes "bool")) refl)

pub field_sits : (f : Field) (a : Word) (gap : Gap) → IsField f → Enters a gap → Sits a (field_words gap f)
field_sits f a gap is enters =
    then_word is.0 (enters (name gap f.name.name) is.0)
    (closes (codes ":") (scalar_words f.scalar) refl refl (scalar_sits f.scalar (a_sign Touching (codes ":")) is.1) (name gap f.name.name) is.0)
