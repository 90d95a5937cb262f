-- Names, literals and types.
use Rattle.std.proofs.Common.{◌≡◌, ℕ, zero, suc, ◌≤◌, ◌^◌, List, [], ◌∷◌, false, ℤ, pos, neg_ℤ, nat_abs, int_lt, codes, refl, sym, ap, ap₂, ◌∙◌, subst, arith}
use Rattle.std.proofs.lemmas.Bool.{cond-false}
use Rattle.std.proofs.lemmas.Bool.Decides.{nat_tests}
use Rattle.std.proofs.lemmas.Int.{ints}
use Rattle.std.proofs.Math.Nat.{le_refl}
use Rattle.sot_text.specs.declared.token.Kind.{Kind}
use Rattle.sot_text.specs.declared.token.Kind.TheVariants.{Name, Number}
use Rattle.sot_text.specs.Lexeme.{decimals_of, mantissa_of, IsTokenText}
use Rattle.sot_text.specs.Reading.{Lexeme}
use Rattle.sot_text.proofs.Limits.{token_fits}
use Rattle.sot_syntax_tree.specs.declared.tree.Ident.{Ident}
use Rattle.sot_syntax_tree.specs.declared.tree.Lit.{Lit}
use Rattle.sot_syntax_tree.specs.declared.tree.Bounds.{Bounds}
use Rattle.sot_syntax_tree.specs.declared.tree.Scalar.{Scalar}
use Rattle.sot_syntax_tree.specs.declared.tree.Scalar.TheVariants.{Int, Fix}
use Rattle.sot_syntax_tree.specs.declared.tree.Field.{Field}
use Rattle.sot_syntax_tree.specs.declared.tree.Const.{Const}
use Rattle.sot_syntax_tree.specs.declared.tree.Const.TheVariants.{Number as Numeral}
use Rattle.sot_expression.specs.Lexemes.{IsNumber, IsName, literal, negative_literal}
use Rattle.sot_parser.specs.Pieces.{Sign, Named, Digits, spelled_name, spelled_number, name_of, number_of, LiteralForm, plain, negative, spelled_literal}
use Rattle.sot_parser.specs.Pieces.{literal_of, SideForm, spelled_side, side_of, RangeForm, spelled_range, range_of, FixForm, spelled_fix, fix_of, ScalarForm}
use Rattle.sot_parser.specs.Pieces.{an_int, a_fix, a_bool, spelled_scalar, scalar_of, FieldForm, spelled_field, field_of, ConstForm, a_literal, a_yes, a_no}
use Rattle.sot_parser.specs.Pieces.{spelled_const, const_of}
use Rattle.sot_print.specs.declared.gap.Gap.{Gap}
use Rattle.sot_print.specs.declared.gap.Gap.TheVariants.{Touching}
use Rattle.sot_print.specs.Words.{Word, sign, number}
use Rattle.sot_print.specs.Leaves.{numeral, literal_words, ident_words, constant_words, bounds_words, range_words, fixed_words, scalar_words, field_words}
use Rattle.sot_syntax_tree.specs.Formed as formed
use Rattle.sot_law_print_parse.specs.Unplaced.{nowhere, unplaced_name, unplaced_literal, unplaced_bounds, unplaced_scalar, unplaced_field, unplaced_const}
use Rattle.sot_law_print_parse.proofs.Takes.{Takes, split, a_keyword, a_sign, a_name, a_number, led, onto}
use Rattle.sot_print.proofs.NumeralTexts.{IsNumeral, numeral_read}
use Rattle.sot_law_print_parse.proofs.Kept.{Production, Again, Kept, Keeps, no_level}

-- NAME
abbrev pub names : Production Gap Named Ident
names = record { spelled = spelled_name; tree = name_of; unplaced = unplaced_name; levels = no_level; Holds = formed.IsName; words = ident_words }

abbrev pub name_only : List ℕ → Ident
name_only text = record { name = text; at = nowhere }

pub same_name : {x y : List ℕ} → x ≡ y → name_only x ≡ name_only y
same_name e = ap name_only e

pub name_text : (t : Lexeme) → IsName t → IsTokenText t.kind t.text → IsTokenText Name t.text
name_text t is text = (let P : Kind → Type 0 = λ k. IsTokenText k t.text in subst P is text)

pub names_keep : Keeps names
names_keep n more texts = (
  record {
    holds = name_text n.token n.is texts.0;
    again = λ gap ts us h. record { form = a_name h.1; tokens = led h.1 h.2; same = same_name h.1.text; nests = le_refl 0 };
  },
  texts.1,
)

-- NUMBER
abbrev pub numbers : Production Gap Digits Lit
numbers = record { spelled = spelled_number; tree = number_of; unplaced = unplaced_literal; levels = no_level; Holds = formed.IsNumber; words = literal_words }

-- its number and its decimals are within their limits
number_fits : (t : Lexeme) → IsNumber t → IsTokenText t.kind t.text → (mantissa_of t.text ≤ 10 ^ 12) × (decimals_of t.text ≤ 6)
number_fits t is text = (let P : Kind → Type 0 = λ k. IsTokenText k t.text in token_fits Number t.text (subst P is text))

-- its numeral is read back
abbrev pub IsRead : Lexeme → Type 0
IsRead t = IsNumeral (mantissa_of t.text) (decimals_of t.text) (numeral (mantissa_of t.text) (decimals_of t.text))

pub number_read : (t : Lexeme) → IsNumber t → IsTokenText t.kind t.text → IsRead t
number_read t is text = numeral_read (mantissa_of t.text) (decimals_of t.text) (omega (arith, (number_fits t is text).0))

number_formed : (t : Lexeme) → IsNumber t → IsTokenText t.kind t.text → formed.IsNumber (literal t)
number_formed t is text =
    let fits = number_fits t is text in
    (record { scale = fits.1; mantissa = fits.0 }, omega (arith, ints))

-- a minus changes no size
size_of_negative : (m : ℕ) → nat_abs (neg_ℤ (pos m)) ≡ m
size_of_negative zero = refl
size_of_negative (suc m) = refl

negative_formed : (minus n : Lexeme) → IsNumber n → IsTokenText n.kind n.text → formed.IsLiteral (negative_literal minus n)
negative_formed minus n is text =
    let fits = number_fits n is text in
    record { scale = fits.1; mantissa = omega (arith, fits.0, size_of_negative (mantissa_of n.text)) }

-- the numeral of a number token is a number token of the same number
pub same_literal : (sign : ℕ → ℤ) (t n : Lexeme) → IsRead n → t.text ≡ numeral (mantissa_of n.text) (decimals_of n.text)
    → unplaced_literal (record { mantissa = sign (mantissa_of t.text); scale = decimals_of t.text; at = nowhere })
    ≡ unplaced_literal (record { mantissa = sign (mantissa_of n.text); scale = decimals_of n.text; at = nowhere })
same_literal sign t n read e =
    ap₂ (λ m s. unplaced_literal (record { mantissa = sign m; scale = s; at = nowhere })) (ap mantissa_of e ∙ read.mantissa_is)
    (ap decimals_of e ∙ read.decimals_are)

not_below_zero : (m : ℕ) → int_lt (pos m) (pos 0) ≡ false
not_below_zero zero = refl
not_below_zero (suc m) = grind (arith, nat_tests)

-- the words of a literal that is not negative, and of one that is
plain_words : (gap : Gap) (l : Lit) (m : ℕ) → l.mantissa ≡ pos m → literal_words gap l ≡ number gap (numeral m l.scale) ∷ []
plain_words gap l m e =
    ap (λ z. literal_words gap (record { mantissa = z; scale = l.scale; at = l.at })) e
    ∙ cond-false (int_lt (pos m) (pos 0)) _ _ (not_below_zero m)

pub number_words : (gap : Gap) (t : Lexeme) → literal_words gap (literal t) ≡ number gap (numeral (mantissa_of t.text) (decimals_of t.text)) ∷ []
number_words gap t = plain_words gap (literal t) (mantissa_of t.text) refl

pub numbers_keep : Keeps numbers
numbers_keep n more texts =
    let read = number_read n.token n.is texts.0 in (
      record {
        holds = number_formed n.token n.is texts.0;
        again = λ gap ts us h.
            let P : List Word → Type 0 = λ ws. Takes ts ws us in
            let one = subst P (number_words gap n.token) h in
            record { form = a_number one.1; tokens = led one.1 one.2; same = same_literal pos one.1.token n.token read one.1.text; nests = le_refl 0 };
      },
      texts.1,
    )

-- lit
abbrev pub literals : Production Gap LiteralForm Lit
literals =
    record { spelled = spelled_literal; tree = literal_of; unplaced = unplaced_literal; levels = no_level; Holds = formed.IsLiteral; words = literal_words }

-- the negative literal of a number; that of 0 is written without a sign
record NegativeAgain (n : Lexeme) (ts us : List Lexeme) : Type 0 where
  form : LiteralForm
  tokens : ts ≡ spelled_literal form us
  same : unplaced_literal (literal_of form) ≡ unplaced_literal (negative_literal n n)

negative_again : (m : ℕ) (n : Lexeme) (gap : Gap) (ts us : List Lexeme) → IsRead n → mantissa_of n.text ≡ m
    → Takes ts (literal_words gap (record { mantissa = neg_ℤ (pos m); scale = decimals_of n.text; at = nowhere })) us → NegativeAgain n ts us
negative_again zero n gap ts us read m_is h =
    let text_is : h.1.token.text ≡ numeral (mantissa_of n.text) (decimals_of n.text) = h.1.text ∙ ap (λ k. numeral k (decimals_of n.text)) (sym m_is) in
    let flat : mantissa_of h.1.token.text ≡ 0 = ap mantissa_of text_is ∙ read.mantissa_is ∙ m_is in
    record {
      form = plain (a_number h.1);
      tokens = led h.1 h.2;
      same =
          ap₂ (λ z s. unplaced_literal (record { mantissa = z; scale = s; at = nowhere })) (ap pos flat ∙ sym (ap (λ k. neg_ℤ (pos k)) m_is))
          (ap decimals_of text_is ∙ read.decimals_are);
    }
negative_again (suc m) n gap ts us read m_is h =
    let text_is : h.2.1.token.text ≡ numeral (mantissa_of n.text) (decimals_of n.text) = h.2.1.text ∙ ap (λ k. numeral k (decimals_of n.text)) (sym m_is) in
    record {
      form = negative (a_sign h.1) (a_number h.2.1);
      tokens = led h.1 (led h.2.1 h.2.2);
      same = same_literal (λ k. neg_ℤ (pos k)) h.2.1.token n read text_is;
    }

pub negative_kept : (minus : Sign (codes "-")) (n : Digits) → IsTokenText n.token.kind n.token.text → Kept literals (negative minus n)
negative_kept minus n text =
    let read = number_read n.token n.is text in
    record {
      holds = negative_formed minus.token n.token n.is text;
      again = λ gap ts us h.
          let a = negative_again (mantissa_of n.token.text) n.token gap ts us read refl h in
          record { form = a.form; tokens = a.tokens; same = a.same; nests = le_refl 0 };
    }

pub literals_keep : Keeps literals
literals_keep (plain n) more texts =
    let kept = numbers_keep n more texts in (
      record {
        holds = kept.0.holds.0;
        again = λ gap ts us h.
            let a = kept.0.again gap ts us h in
            record { form = plain a.form; tokens = a.tokens; same = a.same; nests = le_refl 0 };
      },
      kept.1,
    )
literals_keep (negative minus n) more texts = (negative_kept minus n texts.1.0, texts.1.1)

-- lit ".." lit
abbrev pub sides : Production Gap SideForm Bounds
sides = record { spelled = spelled_side; tree = side_of; unplaced = unplaced_bounds; levels = no_level; Holds = formed.AreBounds; words = bounds_words }

side_again : (s : SideForm) → Kept literals s.lo → Kept literals s.hi → (gap : Gap) (ts us : List Lexeme) → Takes ts (bounds_words gap (side_of s)) us
    → Again sides s ts us
side_again s lo hi gap ts us h =
    let parts = split (literal_words gap (literal_of s.lo)) (sign Touching (codes "..") ∷ literal_words Touching (literal_of s.hi)) ts us h in
    let a = lo.again gap ts parts.0 parts.1 in
    let dots = parts.2 in
    let b = hi.again Touching dots.0 us dots.2 in
    record {
      form = record { lo = a.form; dots = a_sign dots.1; hi = b.form };
      tokens = onto (spelled_literal a.form) a.tokens (led dots.1 b.tokens);
      same = ap₂ (λ (x y : Lit). record { lo = x; hi = y }) a.same b.same;
      nests = le_refl 0;
    }

pub sides_keep : Keeps sides
sides_keep s more texts =
    let lo = literals_keep s.lo (s.dots.token ∷ spelled_literal s.hi more) texts in
    let hi = literals_keep s.hi more lo.1.1 in
    (record { holds = (lo.0.holds, hi.0.holds); again = side_again s lo.0 hi.0 }, hi.1)

-- range
abbrev pub ranges : Production (Unit {0}) RangeForm Bounds
ranges =
    record { spelled = spelled_range; tree = range_of; unplaced = unplaced_bounds; levels = no_level; Holds = formed.AreBounds; words = λ _ b. range_words b }

range_again : (r : RangeForm) → Kept sides r.side → (ts us : List Lexeme) → Takes ts (range_words (range_of r)) us → Again ranges r ts us
range_again r side ts us h =
    let parts = split (bounds_words Touching (side_of r.side)) (sign Touching (codes "]") ∷ []) h.0 us h.2 in
    let a = side.again Touching h.0 parts.0 parts.1 in
    let closing = parts.2 in
    record {
      form = record { opening = a_sign h.1; side = a.form; closing = a_sign closing.1 };
      tokens = led h.1 (onto (spelled_side a.form) a.tokens (led closing.1 closing.2));
      same = a.same;
      nests = le_refl 0;
    }

pub ranges_keep : Keeps ranges
ranges_keep r more texts =
    let side = sides_keep r.side (r.closing.token ∷ more) texts.1 in
    (record { holds = side.0.holds; again = λ _ ts us h. range_again r side.0 ts us h }, side.1.1)

-- scale
abbrev pub fixes : Production (Unit {0}) FixForm Lit
fixes = record { spelled = spelled_fix; tree = fix_of; unplaced = unplaced_literal; levels = no_level; Holds = formed.IsNumber; words = λ _ l. fixed_words l }

fix_again : (f : FixForm) → Kept numbers f.scale → (ts us : List Lexeme) → Takes ts (fixed_words (fix_of f)) us → Again fixes f ts us
fix_again f scale ts us h =
    let opening = h.2 in
    let parts = split (literal_words Touching (fix_of f)) (sign Touching (codes ")") ∷ []) opening.0 us opening.2 in
    let a = scale.again Touching opening.0 parts.0 parts.1 in
    let closing = parts.2 in
    record {
      form = record { fix = a_keyword h.1; opening = a_sign opening.1; scale = a.form; closing = a_sign closing.1 };
      tokens = led h.1 (led opening.1 (onto (spelled_number a.form) a.tokens (led closing.1 closing.2)));
      same = a.same;
      nests = le_refl 0;
    }

pub fixes_keep : Keeps fixes
fixes_keep f more texts =
    let scale = numbers_keep f.scale (f.closing.token ∷ more) texts.1.1 in
    (record { holds = scale.0.holds; again = λ _ ts us h. fix_again f scale.0 ts us h }, scale.1.1)

-- scalar
abbrev pub scalars : Production (Unit {0}) ScalarForm Scalar
scalars =
    record { spelled = spelled_scalar; tree = scalar_of; unplaced = unplaced_scalar; levels = no_level; Holds = formed.IsScalar; words = λ _ s. scalar_words s }

fixed_again : (f : FixForm) (r : RangeForm) → Kept fixes f → Kept ranges r → (ts us : List Lexeme) → Takes ts (scalar_words (Fix (fix_of f) (range_of r))) us
    → Again scalars (a_fix f r) ts us
fixed_again f r scale range ts us h =
    let parts = split (fixed_words (fix_of f)) (range_words (range_of r)) ts us h in
    let a = scale.again tt ts parts.0 parts.1 in
    let b = range.again tt parts.0 us parts.2 in
    record { form = a_fix a.form b.form; tokens = onto (spelled_fix a.form) a.tokens b.tokens; same = ap₂ Fix a.same b.same; nests = le_refl 0 }

pub scalars_keep : Keeps scalars
scalars_keep (an_int word r) more texts =
    let range = ranges_keep r more texts.1 in (
      record {
        holds = range.0.holds;
        again = λ _ ts us h.
            let a = range.0.again tt h.0 us h.2 in
            record { form = an_int (a_keyword h.1) a.form; tokens = led h.1 a.tokens; same = ap Int a.same; nests = le_refl 0 };
      },
      range.1,
    )
scalars_keep (a_fix f r) more texts =
    let scale = fixes_keep f (spelled_range r more) texts in
    let range = ranges_keep r more scale.1 in
    (record { holds = (scale.0.holds, range.0.holds); again = λ _ ts us h. fixed_again f r scale.0 range.0 ts us h }, range.1)
scalars_keep (a_bool word) more texts = (
  record {
    holds = tt;
    again = λ _ ts us h. record { form = a_bool (a_keyword h.1); tokens = led h.1 h.2; same = refl; nests = le_refl 0 };
  },
  texts.1,
)

-- NAME ":" scalar
abbrev pub typed_names : Production Gap FieldForm Field
typed_names = record { spelled = spelled_field; tree = field_of; unplaced = unplaced_field; levels = no_level; Holds = formed.IsField; words = field_words }

pub typed_names_keep : Keeps typed_names
typed_names_keep f more texts =
    let scalar = scalars_keep f.scalar more texts.1.1 in (
      record {
        holds = (name_text f.name.token f.name.is texts.0, scalar.0.holds);
        again = λ gap ts us h.
            let colon = h.2 in
            let a = scalar.0.again tt colon.0 us colon.2 in
            record {
              form = record { name = a_name h.1; colon = a_sign colon.1; scalar = a.form };
              tokens = led h.1 (led colon.1 a.tokens);
              same = ap₂ (λ (x : Ident) (y : Scalar). record { name = x; scalar = y }) (same_name h.1.text) a.same;
              nests = le_refl 0;
            };
      },
      scalar.1,
    )

-- const
abbrev pub constants : Production Gap ConstForm Const
constants = record { spelled = spelled_const; tree = const_of; unplaced = unplaced_const; levels = no_level; Holds = formed.IsConst; words = constant_words }

pub constants_keep : Keeps constants
constants_keep (a_literal l) more texts =
    let kept = literals_keep l more texts in (
      record {
        holds = kept.0.holds;
        again = λ gap ts us h.
            let a = kept.0.again gap ts us h in
            record { form = a_literal a.form; tokens = a.tokens; same = ap Numeral a.same; nests = le_refl 0 };
      },
      kept.1,
    )
constants_keep (a_yes word) more texts = (
  record {
    holds = tt;
    again = λ gap ts us h. record { form = a_yes (a_keyword h.1); tokens = led h.1 h.2; same = refl; nests = le_refl 0 };
  },
  texts.1,
)
constants_keep (a_no word) more texts = (
  record {
    holds = tt;
    again = λ gap ts us h. record { form = a_no (a_keyword h.1); tokens = led h.1 h.2; same = refl; nests = le_refl 0 };
  },
  texts.1,
)
