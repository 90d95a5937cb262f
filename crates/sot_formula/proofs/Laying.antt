-- The parts of a phrase, and the tests on its tokens.
use Rattle.std.proofs.Common.{◌≡◌, ℕ, cond, List, Bool, true, false, codes, Option, Some, None, inl, inr, refl, ap, subst, ◌∙◌}
use Rattle.std.specs.Str.{bytes_eq}
use Rattle.std.proofs.lemmas.Slice.Eq.{bytes_eq-Decides}
use Rattle.sot_text.specs.Reading.{Lexeme}
use Rattle.sot_lang.specs.Tables.{Tables}
use Rattle.sot_syntax_tree.specs.declared.tree.Lit.{Lit}
use Rattle.sot_expression.specs.Lexemes.{IsSign, IsName, is_sign, is_keyword, is_name, literal, negative_literal}
use Rattle.sot_expression.proofs.TokenTests.{sign_ok, keyword_ok, name_ok, sign_is, keyword_is, name_is}
use Rattle.sot_formula.specs.declared.quantity.Comparison.{Comparison}
use Rattle.sot_formula.specs.declared.quantity.Comparison.TheVariants as comparisons
use Rattle.sot_formula.specs.declared.quantity.Pairing.{Pairing}
use Rattle.sot_formula.specs.declared.quantity.Pairing.TheVariants as pairings
use Rattle.sot_formula.specs.declared.what.What.TheVariants as whats
use Rattle.sot_formula.specs.declared.words.Single.TheVariants as singles
use Rattle.sot_formula.specs.declared.words.Double.TheVariants as doubles
use Rattle.sot_formula.specs.declared.words.FormulaOpening.{FormulaOpening}
use Rattle.sot_formula.specs.declared.words.FormulaOpening.TheVariants as openings
use Rattle.sot_formula.specs.declared.words.Word.{Word}
use Rattle.sot_formula.specs.declared.words.Word.TheVariants as words
use Rattle.sot_formula.specs.declared.finding.FoundQuantity.{FoundQuantity}
use Rattle.sot_formula.specs.Phrases.{Reference, a_mode, a_name, a_field, Literal, a_number}
use Rattle.sot_formula.specs.Phrases.{a_negative, Phrase, a_truth, a_single, a_double, a_row, a_within, a_comparison}
use Rattle.sot_formula.specs.Phrases.{Relation, to_number, to_another, of_two}
use Rattle.sot_formula.specs.Phrases.{IsSingle, IsDouble, IsTruth, IsComparing, IsPairing}
use Rattle.sot_formula.specs.Meanings.{sign_text, pair_text}
use Rattle.sot_formula.specs.Words.{comparing_of, pairing_of, opening_of, word_of, single_what, double_what}
use Rattle.sot_formula.specs.Finding.{plain_named, part_named, module_named}
use Rattle.sot_formula.specs.Reading.{Laid, place, put, compared, against, paired, ticks_of}

abbrev pub found_of : Tables → Reference → Option FoundQuantity
found_of p (a_mode w begin n end) = module_named p n.text
found_of p (a_name n) = plain_named p n.text
found_of p (a_field n dot f) = part_named p n.text f.text

abbrev pub or_less : Option Comparison → Comparison
or_less None = comparisons.Less
or_less (Some c) = c

abbrev pub by_of : Lexeme → Comparison
by_of t = or_less (comparing_of t)

abbrev pub lit_of : Literal → Lit
lit_of (a_number n) = literal n
lit_of (a_negative minus n) = negative_literal minus n

abbrev pub or_sum : Option Pairing → Pairing
or_sum None = pairings.Sum
or_sum (Some j) = j

abbrev pub pair_of : Lexeme → Pairing
pair_of t = or_sum (pairing_of t)

-- the part of a comparison, behind others
abbrev pub laid_relation : Tables → Relation → Laid → Laid
laid_relation p (to_number r by z) s = compared (found_of p r) (by_of by) (lit_of z) s
laid_relation p (to_another r by q) s = against (found_of p r) (by_of by) (found_of p q) s
laid_relation p (of_two r pair q by z) s = paired (found_of p r) (pair_of pair) (found_of p q) (by_of by) (lit_of z) s

-- the parts of a phrase, behind others
abbrev pub laid : Tables → Phrase → Laid → Laid
laid p (a_truth value t) s = put (whats.Truth value) s
laid p (a_single o w begin f end) s = put (single_what o (place (laid p f s))) (laid p f s)
laid p (a_double o w begin row end) s = laid p row s
laid p (a_row o f comma g) s = put (double_what o (place (laid p f s)) (place (laid p g (laid p f s)))) (laid p g (laid p f s))
laid p (a_within w begin n comma f end) s = put (whats.Within (ticks_of (literal n)) (place (laid p f s))) (laid p f s)
laid p (a_comparison c) s = laid_relation p c s

-- a choice of a list of cases
case_by : {A : Type 0} (P : A → Type 0) (b : Bool) (x rest : A) → (b ≡ true → P x) → P rest → P (cond b x rest)
case_by P true x rest f g = f refl
case_by P false x rest f g = g

-- what a token is, as it opens a formula
abbrev pub IsOpened : Lexeme → FormulaOpening → Type 0
IsOpened t (openings.Truth value) = IsTruth value t
IsOpened t (openings.Single o) = IsSingle o t
IsOpened t (openings.Double o) = IsDouble o t
IsOpened t openings.Name = IsName t
IsOpened t openings.Other = Unit {0}

pub opening_tells : (t : Lexeme) → IsOpened t (opening_of t)
opening_tells t =
    let P = IsOpened t in
    case_by P (is_name t) openings.Name _ (name_ok t)
    (case_by P (is_keyword (codes "true") t) (openings.Truth true) _ (keyword_ok (codes "true") t)
    (case_by P (is_keyword (codes "false") t) (openings.Truth false) _ (keyword_ok (codes "false") t)
    (case_by P (is_keyword (codes "not") t) (openings.Single singles.Not) _ (keyword_ok (codes "not") t)
    (case_by P (is_keyword (codes "and") t) (openings.Double doubles.And) _ (keyword_ok (codes "and") t)
    (case_by P (is_keyword (codes "or") t) (openings.Double doubles.Or) openings.Other (keyword_ok (codes "or") t) tt)))))

-- what a name is in front of a parenthesis
abbrev pub IsWordOf : List ℕ → Word → Type 0
IsWordOf name (words.Single o) = (w : Lexeme) → IsName w → w.text ≡ name → IsSingle o w
IsWordOf name (words.Double o) = (w : Lexeme) → IsName w → w.text ≡ name → IsDouble o w
IsWordOf name words.Within = name ≡ codes "within"
IsWordOf name words.Mode = name ≡ codes "mode"
IsWordOf name words.Other = Unit {0}

pub same_word : (name word : List ℕ) → bytes_eq name word ≡ true → name ≡ word
same_word name word e = (bytes_eq-Decides name word).0 e

pub word_tells : (name : List ℕ) → IsWordOf name (word_of name)
word_tells name =
    let P = IsWordOf name in
    case_by P (bytes_eq name (codes "once")) (words.Single singles.Once) _ (λ e w n is. record { name = n; text_is = is ∙ same_word name (codes "once") e })
    (case_by P (bytes_eq name (codes "always")) (words.Single singles.Always) _
    (λ e w n is. record { name = n; text_is = is ∙ same_word name (codes "always") e })
    (case_by P (bytes_eq name (codes "since")) (words.Double doubles.Since) _
    (λ e w n is. record { name = n; text_is = is ∙ same_word name (codes "since") e })
    (case_by P (bytes_eq name (codes "implies")) (words.Double doubles.Implies) _
    (λ e w n is. record { name = n; text_is = is ∙ same_word name (codes "implies") e })
    (case_by P (bytes_eq name (codes "within")) words.Within _ (same_word name (codes "within"))
    (case_by P (bytes_eq name (codes "mode")) words.Mode words.Other (same_word name (codes "mode")) tt)))))

-- the sign of a comparison
abbrev pub IsSigned : Lexeme → Option Comparison → Type 0
IsSigned t None = Unit {0}
IsSigned t (Some c) = IsSign (sign_text c) t

signed_tells : (t : Lexeme) → IsSigned t (comparing_of t)
signed_tells t =
    let P = IsSigned t in
    case_by P (is_sign (codes "<") t) (Some comparisons.Less) _ (sign_ok (codes "<") t)
    (case_by P (is_sign (codes "<=") t) (Some comparisons.LessEqual) _ (sign_ok (codes "<=") t)
    (case_by P (is_sign (codes ">") t) (Some comparisons.Greater) _ (sign_ok (codes ">") t)
    (case_by P (is_sign (codes ">=") t) (Some comparisons.GreaterEqual) _ (sign_ok (codes ">=") t)
    (case_by P (is_sign (codes "==") t) (Some comparisons.Equal) _ (sign_ok (codes "==") t)
    (case_by P (is_sign (codes "!=") t) (Some comparisons.NotEqual) None (sign_ok (codes "!=") t) tt)))))

pub signed : (t : Lexeme) (c : Comparison) → comparing_of t ≡ Some c → IsSign (sign_text c) t
signed t c e = subst (IsSigned t) e (signed_tells t)

pub compares : (c : Comparison) (t : Lexeme) → IsSign (sign_text c) t → IsComparing t
compares comparisons.Less t is = inl is
compares comparisons.LessEqual t is = inr (inl is)
compares comparisons.Greater t is = inr (inr (inl is))
compares comparisons.GreaterEqual t is = inr (inr (inr (inl is)))
compares comparisons.Equal t is = inr (inr (inr (inr (inl is))))
compares comparisons.NotEqual t is = inr (inr (inr (inr (inr is))))

pub signs : (c : Comparison) (t : Lexeme) → IsSign (sign_text c) t → comparing_of t ≡ Some c
signs comparisons.Less t is = ap comparing_of (sign_is (codes "<") t is)
signs comparisons.LessEqual t is = ap comparing_of (sign_is (codes "<=") t is)
signs comparisons.Greater t is = ap comparing_of (sign_is (codes ">") t is)
signs comparisons.GreaterEqual t is = ap comparing_of (sign_is (codes ">=") t is)
signs comparisons.Equal t is = ap comparing_of (sign_is (codes "==") t is)
signs comparisons.NotEqual t is = ap comparing_of (sign_is (codes "!=") t is)

pub some_sign : (t : Lexeme) → IsComparing t → (c : Comparison) × IsSign (sign_text c) t
some_sign t (inl is) = (comparisons.Less, is)
some_sign t (inr (inl is)) = (comparisons.LessEqual, is)
some_sign t (inr (inr (inl is))) = (comparisons.Greater, is)
some_sign t (inr (inr (inr (inl is)))) = (comparisons.GreaterEqual, is)
some_sign t (inr (inr (inr (inr (inl is))))) = (comparisons.Equal, is)
some_sign t (inr (inr (inr (inr (inr is))))) = (comparisons.NotEqual, is)

-- the sign of a sum or a difference
abbrev IsPaired : Lexeme → Option Pairing → Type 0
IsPaired t None = Unit {0}
IsPaired t (Some j) = IsSign (pair_text j) t

pairing_tells : (t : Lexeme) → IsPaired t (pairing_of t)
pairing_tells t =
    let P = IsPaired t in
    case_by P (is_sign (codes "+") t) (Some pairings.Sum) _ (sign_ok (codes "+") t)
    (case_by P (is_sign (codes "-") t) (Some pairings.Difference) None (sign_ok (codes "-") t) tt)

pub pair_signed : (t : Lexeme) (j : Pairing) → pairing_of t ≡ Some j → IsSign (pair_text j) t
pair_signed t j e = subst (IsPaired t) e (pairing_tells t)

pub pairs : (j : Pairing) (t : Lexeme) → IsSign (pair_text j) t → IsPairing t
pairs pairings.Sum t is = inl is
pairs pairings.Difference t is = inr is

pub pair_signs : (j : Pairing) (t : Lexeme) → IsSign (pair_text j) t → pairing_of t ≡ Some j
pair_signs pairings.Sum t is = ap pairing_of (sign_is (codes "+") t is)
pair_signs pairings.Difference t is = ap pairing_of (sign_is (codes "-") t is)

pub some_pair : (t : Lexeme) → IsPairing t → (j : Pairing) × IsSign (pair_text j) t
some_pair t (inl is) = (pairings.Sum, is)
some_pair t (inr is) = (pairings.Difference, is)

pub no_pair : (c : Comparison) (t : Lexeme) → IsSign (sign_text c) t → pairing_of t ≡ None
no_pair comparisons.Less t is = ap pairing_of (sign_is (codes "<") t is)
no_pair comparisons.LessEqual t is = ap pairing_of (sign_is (codes "<=") t is)
no_pair comparisons.Greater t is = ap pairing_of (sign_is (codes ">") t is)
no_pair comparisons.GreaterEqual t is = ap pairing_of (sign_is (codes ">=") t is)
no_pair comparisons.Equal t is = ap pairing_of (sign_is (codes "==") t is)
no_pair comparisons.NotEqual t is = ap pairing_of (sign_is (codes "!=") t is)

-- the openings of phrases
pub truth_opens : (value : Bool) (t : Lexeme) → IsTruth value t → opening_of t ≡ openings.Truth value
truth_opens true t is = ap opening_of (keyword_is (codes "true") t is)
truth_opens false t is = ap opening_of (keyword_is (codes "false") t is)

pub not_opens : (t : Lexeme) → IsSingle singles.Not t → opening_of t ≡ openings.Single singles.Not
not_opens t is = ap opening_of (keyword_is (codes "not") t is)

pub and_opens : (t : Lexeme) → IsDouble doubles.And t → opening_of t ≡ openings.Double doubles.And
and_opens t is = ap opening_of (keyword_is (codes "and") t is)

pub or_opens : (t : Lexeme) → IsDouble doubles.Or t → opening_of t ≡ openings.Double doubles.Or
or_opens t is = ap opening_of (keyword_is (codes "or") t is)

pub name_opens : (t : Lexeme) → IsName t → opening_of t ≡ openings.Name
name_opens t is = ap opening_of (name_is t is)
