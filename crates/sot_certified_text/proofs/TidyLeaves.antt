-- The words of literals, names, lists and types are tidy.
use Rattle.std.proofs.Common.{◌≡◌, ℕ, zero, suc, ◌+◌, ◌%◌, ◌^◌, ◌/◌, ◌==◌, ◌||◌, Bool, true, false, Option, None, Some, List, [], ◌∷◌, ◌++◌, length, take}
use Rattle.std.proofs.Common.{codes, pos, int_lt, unsigned_abs, inl, inr, refl, sym, ◌∙◌, arith}
use Rattle.std.specs.Char.{is_ascii_digit}
use Rattle.std.specs.Fmt.{decimal}
use Rattle.std.specs.List.{prefix_len}
use Rattle.std.proofs.lemmas.Bool.{cases_Bool, cond-true, cond-false}
use Rattle.std.proofs.lemmas.Bool.Decides.{nat_tests}
use Rattle.std.proofs.lemmas.List.Folds.{length-prefix_len}
use Rattle.sot_text.specs.declared.token.Kind.TheVariants.{Name, Sign}
use Rattle.sot_text.specs.declared.lexeme.Front.TheVariants.{Token}
use Rattle.sot_text.specs.Lexeme.{begins_word, is_in_word, word_len, decimals_of, mantissa_of, number_len, sign_len, IsTokenText}
use Rattle.sot_text.proofs.Fronts.{front_word, front_number, front_sign, word_takes, sign_takes}
use Rattle.sot_syntax_tree.specs.declared.tree.Ident.{Ident}
use Rattle.sot_syntax_tree.specs.declared.tree.Lit.{Lit}
use Rattle.sot_syntax_tree.specs.declared.tree.Bounds.{Bounds}
use Rattle.sot_syntax_tree.specs.declared.tree.Scalar.{Scalar}
use Rattle.sot_syntax_tree.specs.declared.tree.Scalar.TheVariants.{Int, Fix, Bool as Truths}
use Rattle.sot_syntax_tree.specs.declared.tree.Field.{Field}
use Rattle.sot_syntax_tree.specs.declared.tree.Const.{Const}
use Rattle.sot_syntax_tree.specs.declared.tree.Const.TheVariants.{Number as Numeral, Truth}
use Rattle.sot_syntax_tree.specs.Formed.{Each, IsName, IfThere, IsField}
use Rattle.sot_syntax_tree.proofs.Names.{number_no_name}
use Rattle.sot_print.specs.declared.gap.Gap.{Gap}
use Rattle.sot_print.specs.declared.gap.Gap.TheVariants.{Touching, Space}
use Rattle.sot_print.specs.Words.{Word, keyword, sign, name, number}
use Rattle.sot_print.specs.Leaves.{last_digits, numeral, literal_words, ident_words, reference_words, truth_words, constant_words, items_from, listed}
use Rattle.sot_print.specs.Leaves.{bounds_words, range_words, fixed_words, scalar_words, field_words}
use Rattle.sot_certified_text.proofs.PlainTexts.{is_one_line, begins_plain, both, one_line_on, begins_on}
use Rattle.sot_certified_text.proofs.Digits.{decimal_one_line, decimal_plain}
use Rattle.sot_certified_text.proofs.Tidy.{stays, is_tidy, Tidy, joined, then_word, choice}

-- ---- numerals

last_one_line : (count n : ℕ) → is_one_line (last_digits count n) ≡ true
last_one_line zero n = refl
last_one_line (suc count) n =
    let other : (48 + n % 10 == 10) ≡ false = grind (arith, nat_tests) in
    one_line_on (last_digits count (n / 10)) ((48 + n % 10) ∷ []) (last_one_line count (n / 10)) (rw other refl)

numeral_one_line : (digits scale : ℕ) → is_one_line (numeral digits scale) ≡ true
numeral_one_line digits scale =
    elim (cases_Bool (scale == 0)) [
      | inl whole ↦ rw whole (decimal_one_line digits)
      | inr some ↦ rw some (one_line_on (decimal (digits / 10 ^ scale)) (codes "." ++ last_digits scale digits) (decimal_one_line (digits / 10 ^ scale))
          (last_one_line scale digits))
    ]

numeral_plain : (digits scale : ℕ) → begins_plain (numeral digits scale) ≡ true
numeral_plain digits scale =
    elim (cases_Bool (scale == 0)) [
      | inl whole ↦ rw whole (decimal_plain digits)
      | inr some ↦ rw some (begins_on (decimal (digits / 10 ^ scale)) (codes "." ++ last_digits scale digits) (decimal_plain (digits / 10 ^ scale)))
    ]

-- a word that begins plainly, whatever gap stands before it
pub plain_word : (w : Word) → is_one_line w.text ≡ true → begins_plain w.text ≡ true → is_tidy w ≡ true
plain_word w one opens = both (is_one_line w.text) (begins_plain w.text || stays w.before) one (or_true (begins_plain w.text) (stays w.before) opens)
  where
    or_true : (a b : Bool) → a ≡ true → (a || b) ≡ true
    or_true true b e = refl
    or_true false b e = absurd cc

number_tidy : (gap : Gap) (digits scale : ℕ) → is_tidy (number gap (numeral digits scale)) ≡ true
number_tidy gap digits scale = plain_word (number gap (numeral digits scale)) (numeral_one_line digits scale) (numeral_plain digits scale)

pub literal_tidy : (l : Lit) (gap : Gap) → Tidy (literal_words gap l)
literal_tidy l gap =
    let digits : ℕ = unsigned_abs l.mantissa in
    choice (int_lt l.mantissa (pos 0)) (sign gap (codes "-") ∷ number Touching (numeral digits l.scale) ∷ []) (number gap (numeral digits l.scale) ∷ [])
    (then_word (number Touching (numeral digits l.scale)) [] (number_tidy Touching digits l.scale) refl)
    (then_word (number gap (numeral digits l.scale)) [] (number_tidy gap digits l.scale) refl)

-- ---- names

-- a name is one word from end to end
record IsWord (b : ℕ) (bs : List ℕ) : Type 0 where
  first : begins_word b ≡ true
  all : prefix_len is_in_word (b ∷ bs) ≡ length (b ∷ bs)

name_word : (b : ℕ) (bs : List ℕ) → IsTokenText Name (b ∷ bs) → IsWord b bs
name_word b bs is =
    elim (cases_Bool (begins_word b)) [
      | inl first ↦ record {
        first = first;
        all =
            sym (word_takes (take (word_len (b ∷ bs)) (b ∷ bs)) Name (length (b ∷ bs)) (sym (front_word b bs first) ∙ is)
            ∙ length-prefix_len is_in_word (b ∷ bs));
      }
      | inr no_word ↦
          elim (cases_Bool (is_ascii_digit b)) [
            | inl digit ↦ absurd (number_no_name (decimals_of (b ∷ bs)) (mantissa_of (b ∷ bs)) (number_len (b ∷ bs)) _
                (sym (front_number b bs no_word digit) ∙ is))
            | inr no_digit ↦
                let takes = sign_takes (sign_len (b ∷ bs)) (length (b ∷ bs)) Name (sym (front_sign b bs no_word no_digit) ∙ is) in
                let never : Token Name (length (b ∷ bs)) ≡ Token Sign (sign_len (b ∷ bs)) = takes.2 in
                absurd cc
          ]
    ]

word_no_end : (b : ℕ) → is_in_word b ≡ true → (b == 10) ≡ false
word_no_end b is = grind (arith, nat_tests)

word_plain : (b : ℕ) → begins_word b ≡ true → (b == 37) ≡ false
word_plain b is = grind (arith, nat_tests)

word_one_line : (text : List ℕ) → prefix_len is_in_word text ≡ length text → is_one_line text ≡ true
word_one_line [] e = refl
word_one_line (b ∷ bs) e =
    elim (cases_Bool (is_in_word b)) [
      | inl inside ↦
          let more : 1 + prefix_len is_in_word bs ≡ length (b ∷ bs) = sym (cond-true (is_in_word b) _ _ inside) ∙ e in
          rw (word_no_end b inside) (word_one_line bs (omega arith))
      | inr outside ↦ (let none : 0 ≡ length (b ∷ bs) = sym (cond-false (is_in_word b) _ _ outside) ∙ e in absurd (omega arith))
    ]

pub name_tidy : (gap : Gap) (text : List ℕ) → IsTokenText Name text → is_tidy (name gap text) ≡ true
name_tidy gap [] is = absurd cc
name_tidy gap (b ∷ bs) is =
    let word = name_word b bs is in
    plain_word (name gap (b ∷ bs)) (word_one_line (b ∷ bs) word.all) (rw (word_plain b word.first) refl)

pub ident_tidy : (i : Ident) (gap : Gap) → IsName i → Tidy (ident_words gap i)
ident_tidy i gap is = then_word (name gap i.name) [] (name_tidy gap i.name is) refl

pub reference_tidy : (first : Ident) (field : Option Ident) (gap : Gap) → IsName first → IfThere IsName field → Tidy (reference_words gap first field)
reference_tidy first None gap is there = ident_tidy first gap is
reference_tidy first (Some field) gap is there =
    then_word (name gap first.name) (sign Touching (codes ".") ∷ ident_words Touching field) (name_tidy gap first.name is) (ident_tidy field Touching there)

-- ---- constants, lists and types

pub truth_tidy : (value : Bool) (gap : Gap) → Tidy (truth_words gap value)
truth_tidy true gap = refl
truth_tidy false gap = refl

pub constant_tidy : (c : Const) (gap : Gap) → Tidy (constant_words gap c)
constant_tidy (Numeral l) gap = literal_tidy l gap
constant_tidy (Truth value at) gap = truth_tidy value gap

items_tidy : {A : Type 0} (item : Gap → A → List Word) (P : A → Type 0) → ((x : A) (gap : Gap) → P x → Tidy (item gap x))
    → (gap : Gap) (first : Bool) (xs : List A) → Each P xs → Tidy (items_from item gap first xs)
items_tidy item P tidy gap first [] all = refl
items_tidy item P tidy gap true (x ∷ xs) all = joined (item gap x) (items_from item gap false xs) (tidy x gap all.0) (items_tidy item P tidy gap false xs all.1)
items_tidy item P tidy gap false (x ∷ xs) all =
    joined (sign Touching (codes ",") ∷ item Space x) (items_from item gap false xs) (tidy x Space all.0) (items_tidy item P tidy gap false xs all.1)

pub listed_tidy : {A : Type 0} (item : Gap → A → List Word) (P : A → Type 0) → ((x : A) (gap : Gap) → P x → Tidy (item gap x)) → (gap : Gap) (xs : List A)
    → Each P xs → Tidy (listed item gap xs)
listed_tidy item P tidy gap xs all = items_tidy item P tidy gap true xs all

pub bounds_tidy : (b : Bounds) (gap : Gap) → Tidy (bounds_words gap b)
bounds_tidy b gap =
    joined (literal_words gap b.lo) (sign Touching (codes "..") ∷ literal_words Touching b.hi) (literal_tidy b.lo gap) (literal_tidy b.hi Touching)

range_tidy : (b : Bounds) → Tidy (range_words b)
range_tidy b = joined (sign Touching (codes "[") ∷ bounds_words Touching b) (sign Touching (codes "]") ∷ []) (bounds_tidy b Touching) refl

pub fixed_tidy : (scale : Lit) → Tidy (fixed_words scale)
fixed_tidy scale =
    joined (keyword Space (codes "fix") ∷ sign Touching (codes "(") ∷ literal_words Touching scale) (sign Touching (codes ")") ∷ [])
    (literal_tidy scale Touching) refl

pub scalar_tidy : (s : Scalar) → Tidy (scalar_words s)
scalar_tidy (Int b) = range_tidy b
scalar_tidy (Fix scale b) = joined (fixed_words scale) (range_words b) (fixed_tidy scale) (range_tidy b)
scalar_tidy (Truths at) = refl

pub field_tidy : (f : Field) (gap : Gap) → IsField f → Tidy (field_words gap f)
field_tidy f gap is =
    then_word (name gap f.name.name) (sign Touching (codes ":") ∷ scalar_words f.scalar) (name_tidy gap f.name.name is.0) (scalar_tidy f.scalar)
