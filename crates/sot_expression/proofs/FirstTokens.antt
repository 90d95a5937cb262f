-- The first token of a phrase, and the one behind it.
use Rattle.std.proofs.Common.{◌≡◌, ℕ, ◌==◌, cond, zero, suc, ◌≤◌, List, ◌∷◌, Bool, true, false, inl, inr, codes, Some, None, ap, subst, ◌∙◌, arith}
use Rattle.std.proofs.lemmas.Bool.{cases_Bool}
use Rattle.std.proofs.lemmas.Bool.Decides.{nat_tests}
use Rattle.sot_text.specs.Reading.{Lexeme}
use Rattle.sot_syntax_tree.specs.declared.operator.Op.{Op}
use Rattle.sot_syntax_tree.specs.declared.operator.Op.TheVariants.{Add, Sub, Mul, Div, Less, LessEqual, Greater, GreaterEqual, Equal, NotEqual, And, Or}
use Rattle.sot_syntax_tree.specs.declared.operator.Func.{Func}
use Rattle.sot_syntax_tree.specs.declared.operator.Func.TheVariants.{Min, Max, Abs, Clamp}
use Rattle.sot_expression.specs.declared.operators.Infix.{Infix}
use Rattle.sot_expression.specs.declared.operators.Infix.TheVariants.{Joins, Rests}
use Rattle.sot_expression.specs.Lexemes.{IsKeyword, IsSign, IsName, IsNumber, begins, is_sign, is_keyword, is_number}
use Rattle.sot_expression.specs.Operators.{operator_of, tier_of_op, tier_of_infix, of_tier, infix_at}
use Rattle.sot_expression.specs.Phrases.{Phrase, a_number, a_truth, a_name, a_field, a_group, an_abs, a_pair, a_clamp, a_rescale, a_minus, a_rest, a_join}
use Rattle.sot_expression.specs.Phrases.{a_not, an_if, spelled, tier_of, IsTruth, IsPairWord, IsOperator, left_tier, IsPhrase, is_numeral, levels_of, Stops}
use Rattle.sot_expression.proofs.TokenTests.{sign_is, keyword_is, name_is, number_is, join_is, rest_is}

-- no operator of these tiers comes, and no point
abbrev pub StopsAt : ℕ → List Lexeme → Type 0
StopsAt k ts = ((j : ℕ) → j ≤ k → infix_at j ts ≡ None) × (begins (is_sign (codes ".")) ts ≡ false)

pub stops_at : (k : ℕ) (ts : List Lexeme) → Stops ts → StopsAt k ts
stops_at k ts h = (λ j _. ap (of_tier j) h.0, h.1)

pub stops_lower : (j k : ℕ) (ts : List Lexeme) → j ≤ k → StopsAt k ts → StopsAt j ts
stops_lower j k ts le h = (λ i i_le. h.0 i (omega (arith, i_le, le)), h.1)

pub close_stops : (k : ℕ) (t : Lexeme) (ts : List Lexeme) → IsSign (codes ")") t → StopsAt k (t ∷ ts)
close_stops k t ts h = stops_at k (t ∷ ts) (ap operator_of (sign_is (codes ")") t h), ap (is_sign (codes ".")) (sign_is (codes ")") t h))

-- what ends an expression of a statement
pub semicolon_stops : (t : Lexeme) (ts : List Lexeme) → IsSign (codes ";") t → Stops (t ∷ ts)
semicolon_stops t ts h = (ap operator_of (sign_is (codes ";") t h), ap (is_sign (codes ".")) (sign_is (codes ";") t h))

pub brace_stops : (t : Lexeme) (ts : List Lexeme) → IsSign (codes "{") t → Stops (t ∷ ts)
brace_stops t ts h = (ap operator_of (sign_is (codes "{") t h), ap (is_sign (codes ".")) (sign_is (codes "{") t h))

pub comma_stops : (k : ℕ) (t : Lexeme) (ts : List Lexeme) → IsSign (codes ",") t → StopsAt k (t ∷ ts)
comma_stops k t ts h = stops_at k (t ∷ ts) (ap operator_of (sign_is (codes ",") t h), ap (is_sign (codes ".")) (sign_is (codes ",") t h))

pub then_stops : (k : ℕ) (t : Lexeme) (ts : List Lexeme) → IsKeyword (codes "then") t → StopsAt k (t ∷ ts)
then_stops k t ts h = stops_at k (t ∷ ts) (ap operator_of (keyword_is (codes "then") t h), ap (is_sign (codes ".")) (keyword_is (codes "then") t h))

pub else_stops : (k : ℕ) (t : Lexeme) (ts : List Lexeme) → IsKeyword (codes "else") t → StopsAt k (t ∷ ts)
else_stops k t ts h = stops_at k (t ∷ ts) (ap operator_of (keyword_is (codes "else") t h), ap (is_sign (codes ".")) (keyword_is (codes "else") t h))

no_point : (op : Op) (t : Lexeme) → IsOperator op t → is_sign (codes ".") t ≡ false
no_point Add t h = ap (is_sign (codes ".")) (sign_is (codes "+") t h)
no_point Sub t h = ap (is_sign (codes ".")) (sign_is (codes "-") t h)
no_point Mul t h = ap (is_sign (codes ".")) (sign_is (codes "*") t h)
no_point Div t h = ap (is_sign (codes ".")) (sign_is (codes "/") t h)
no_point Less t h = ap (is_sign (codes ".")) (sign_is (codes "<") t h)
no_point LessEqual t h = ap (is_sign (codes ".")) (sign_is (codes "<=") t h)
no_point Greater t h = ap (is_sign (codes ".")) (sign_is (codes ">") t h)
no_point GreaterEqual t h = ap (is_sign (codes ".")) (sign_is (codes ">=") t h)
no_point Equal t h = ap (is_sign (codes ".")) (sign_is (codes "==") t h)
no_point NotEqual t h = ap (is_sign (codes ".")) (sign_is (codes "!=") t h)
no_point And t h = ap (is_sign (codes ".")) (keyword_is (codes "and") t h)
no_point Or t h = ap (is_sign (codes ".")) (keyword_is (codes "or") t h)

pub of_tier_other : (j : ℕ) (o : Infix) → (tier_of_infix o ≡ j → ⊥) → of_tier j (Some o) ≡ None
of_tier_other j o other = let test : (tier_of_infix o == j) ≡ false = grind (arith, nat_tests) in ap (λ b. cond b (Some o) None) test

-- an operator stops what binds tighter
operator_stops : (k : ℕ) (o : Infix) (t : Lexeme) (ts : List Lexeme) → operator_of t ≡ Some o → tier_of_infix o ≡ suc k → is_sign (codes ".") t ≡ false
    → StopsAt k (t ∷ ts)
operator_stops k o t ts is tier point = (λ j le. ap (of_tier j) is ∙ of_tier_other j o (λ same. omega (arith, same, tier, le)), point)

pub join_stops : (k : ℕ) (op : Op) (t : Lexeme) (ts : List Lexeme) → IsOperator op t → tier_of_op op ≡ suc k → StopsAt k (t ∷ ts)
join_stops k op t ts h tier = operator_stops k (Joins op) t ts (join_is op t h) tier (no_point op t h)

pub rest_stops : (k : ℕ) (t : Lexeme) (ts : List Lexeme) → IsSign (codes "%") t → 1 ≡ suc k → StopsAt k (t ∷ ts)
rest_stops k t ts h tier = operator_stops k Rests t ts (rest_is t h) tier (ap (is_sign (codes ".")) (sign_is (codes "%") t h))

-- tiers and levels
pub some_tier : (op : Op) → 1 ≤ tier_of_op op
some_tier Add = omega arith
some_tier Sub = omega arith
some_tier Mul = omega arith
some_tier Div = omega arith
some_tier Less = omega arith
some_tier LessEqual = omega arith
some_tier Greater = omega arith
some_tier GreaterEqual = omega arith
some_tier Equal = omega arith
some_tier NotEqual = omega arith
some_tier And = omega arith
some_tier Or = omega arith

pub op_most : (op : Op) → tier_of_op op ≤ 6
op_most Add = omega arith
op_most Sub = omega arith
op_most Mul = omega arith
op_most Div = omega arith
op_most Less = omega arith
op_most LessEqual = omega arith
op_most Greater = omega arith
op_most GreaterEqual = omega arith
op_most Equal = omega arith
op_most NotEqual = omega arith
op_most And = omega arith
op_most Or = omega arith

-- no operator has the tier of `not`
pub no_four : (op : Op) → tier_of_op op ≤ 4 → tier_of_op op ≤ 3
no_four Add le = omega arith
no_four Sub le = omega arith
no_four Mul le = omega arith
no_four Div le = omega arith
no_four Less le = omega arith
no_four LessEqual le = omega arith
no_four Greater le = omega arith
no_four GreaterEqual le = omega arith
no_four Equal le = omega arith
no_four NotEqual le = omega arith
no_four And le = absurd (omega (arith, le))
no_four Or le = absurd (omega (arith, le))

pub tier_most : (f : Phrase) → tier_of f ≤ 7
tier_most (a_number n) = omega arith
tier_most (a_truth value t) = omega arith
tier_most (a_name n) = omega arith
tier_most (a_field n dot f) = omega arith
tier_most (a_group open_ f close) = omega arith
tier_most (an_abs w open_ f close) = omega arith
tier_most (a_pair func w open_ f comma g close) = omega arith
tier_most (a_clamp w open_ f comma g comma2 h close) = omega arith
tier_most (a_rescale w open_ f comma n close) = omega arith
tier_most (a_minus t f) = omega arith
tier_most (a_rest f t n) = omega arith
tier_most (a_join op f t g) = omega (arith, op_most op)
tier_most (a_not t f) = omega arith
tier_most (an_if t c u f v g) = omega arith

pub some_levels : (f : Phrase) → 1 ≤ levels_of f
some_levels (a_number n) = omega arith
some_levels (a_truth value t) = omega arith
some_levels (a_name n) = omega arith
some_levels (a_field n dot f) = omega arith
some_levels (a_group open_ f close) = grind (arith, some_levels f)
some_levels (an_abs w open_ f close) = omega arith
some_levels (a_pair func w open_ f comma g close) = omega arith
some_levels (a_clamp w open_ f comma g comma2 h close) = omega arith
some_levels (a_rescale w open_ f comma n close) = omega arith
some_levels (a_minus t f) = grind arith
some_levels (a_rest f t n) = omega arith
some_levels (a_join op f t g) = omega arith
some_levels (a_not t f) = omega arith
some_levels (an_if t c u f v g) = omega arith

pub left_below : (k a : ℕ) → a ≤ left_tier (suc k) → a ≤ suc k
left_below k a le = elim (cases_Bool (suc k == 3)) [
  | inl three ↦ (let is : suc k ≡ 3 = grind (arith, nat_tests) in let h : a ≤ 2 = subst (λ (b : Bool). a ≤ cond b 2 (suc k)) three le in omega arith)
  | inr other ↦ subst (λ (b : Bool). a ≤ cond b 2 (suc k)) other le
]

left_most : (tier a : ℕ) → a ≤ left_tier tier → a ≤ tier
left_most zero a le = le
left_most (suc k) a le = left_below k a le

-- the word of a call is no other word
pair_word : (func : Func) (w : Lexeme) (test : Lexeme → Bool) (b : Bool) → IsPairWord func w → (IsKeyword (codes "min") w → test w ≡ b)
    → (IsKeyword (codes "max") w → test w ≡ b) → test w ≡ b
pair_word Min w test b h f g = f h
pair_word Max w test b h f g = g h
pair_word Abs w test b h f g = absurd h
pair_word Clamp w test b h f g = absurd h

truth_word : (value : Bool) (t : Lexeme) (test : Lexeme → Bool) (b : Bool) → IsTruth value t → (IsKeyword (codes "true") t → test t ≡ b)
    → (IsKeyword (codes "false") t → test t ≡ b) → test t ≡ b
truth_word true t test b h f g = f h
truth_word false t test b h f g = g h

-- a comparison and what binds tighter does not begin with `not`
pub no_not : (f : Phrase) (us : List Lexeme) → IsPhrase f → tier_of f ≤ 3 → begins (is_keyword (codes "not")) (spelled f us) ≡ false
no_not (a_number n) us is le = ap (is_keyword (codes "not")) (number_is n is)
no_not (a_truth value t) us is le =
    truth_word value t (is_keyword (codes "not")) false is (λ h. ap (is_keyword (codes "not")) (keyword_is (codes "true") t h))
    (λ h. ap (is_keyword (codes "not")) (keyword_is (codes "false") t h))
no_not (a_name n) us is le = ap (is_keyword (codes "not")) (name_is n is)
no_not (a_field n dot f) us is le = ap (is_keyword (codes "not")) (name_is n is.0)
no_not (a_group open_ f close) us is le = ap (is_keyword (codes "not")) (sign_is (codes "(") open_ is.0)
no_not (an_abs w open_ f close) us is le = ap (is_keyword (codes "not")) (keyword_is (codes "abs") w is.0)
no_not (a_pair func w open_ f comma g close) us is le =
    pair_word func w (is_keyword (codes "not")) false is.0 (λ h. ap (is_keyword (codes "not")) (keyword_is (codes "min") w h))
    (λ h. ap (is_keyword (codes "not")) (keyword_is (codes "max") w h))
no_not (a_clamp w open_ f comma g comma2 h close) us is le = ap (is_keyword (codes "not")) (keyword_is (codes "clamp") w is.0)
no_not (a_rescale w open_ f comma n close) us is le = ap (is_keyword (codes "not")) (keyword_is (codes "rescale") w is.0)
no_not (a_minus t f) us is le = ap (is_keyword (codes "not")) (sign_is (codes "-") t is.0)
no_not (a_rest f t n) us is le = no_not f (t ∷ n ∷ us) is.0 (omega (arith, is.1))
no_not (a_join op f t g) us is le = no_not f (t ∷ spelled g us) is.0 (omega (arith, left_most (tier_of_op op) (tier_of f) is.1, le))
no_not (a_not t f) us is le = absurd (omega (arith, le))
no_not (an_if t c u f v g) us is le = absurd (omega (arith, le))

-- only a whole expression begins with `if`
pub no_if : (f : Phrase) (us : List Lexeme) → IsPhrase f → tier_of f ≤ 6 → begins (is_keyword (codes "if")) (spelled f us) ≡ false
no_if (a_number n) us is le = ap (is_keyword (codes "if")) (number_is n is)
no_if (a_truth value t) us is le =
    truth_word value t (is_keyword (codes "if")) false is (λ h. ap (is_keyword (codes "if")) (keyword_is (codes "true") t h))
    (λ h. ap (is_keyword (codes "if")) (keyword_is (codes "false") t h))
no_if (a_name n) us is le = ap (is_keyword (codes "if")) (name_is n is)
no_if (a_field n dot f) us is le = ap (is_keyword (codes "if")) (name_is n is.0)
no_if (a_group open_ f close) us is le = ap (is_keyword (codes "if")) (sign_is (codes "(") open_ is.0)
no_if (an_abs w open_ f close) us is le = ap (is_keyword (codes "if")) (keyword_is (codes "abs") w is.0)
no_if (a_pair func w open_ f comma g close) us is le =
    pair_word func w (is_keyword (codes "if")) false is.0 (λ h. ap (is_keyword (codes "if")) (keyword_is (codes "min") w h))
    (λ h. ap (is_keyword (codes "if")) (keyword_is (codes "max") w h))
no_if (a_clamp w open_ f comma g comma2 h close) us is le = ap (is_keyword (codes "if")) (keyword_is (codes "clamp") w is.0)
no_if (a_rescale w open_ f comma n close) us is le = ap (is_keyword (codes "if")) (keyword_is (codes "rescale") w is.0)
no_if (a_minus t f) us is le = ap (is_keyword (codes "if")) (sign_is (codes "-") t is.0)
no_if (a_rest f t n) us is le = no_if f (t ∷ n ∷ us) is.0 (omega (arith, is.1))
no_if (a_join op f t g) us is le = no_if f (t ∷ spelled g us) is.0 (omega (arith, left_most (tier_of_op op) (tier_of f) is.1, le))
no_if (a_not t f) us is le = ap (is_keyword (codes "if")) (keyword_is (codes "not") t is.0)
no_if (an_if t c u f v g) us is le = absurd (omega (arith, le))

-- an operand that is no number does not begin with one
pub no_number : (f : Phrase) (us : List Lexeme) → IsPhrase f → tier_of f ≡ 0 → is_numeral f ≡ false → begins is_number (spelled f us) ≡ false
no_number (a_number n) us is low no_ = absurd cc
no_number (a_truth value t) us is low no_ =
    truth_word value t is_number false is (λ h. ap is_number (keyword_is (codes "true") t h)) (λ h. ap is_number (keyword_is (codes "false") t h))
no_number (a_name n) us is low no_ = ap is_number (name_is n is)
no_number (a_field n dot f) us is low no_ = ap is_number (name_is n is.0)
no_number (a_group open_ f close) us is low no_ = ap is_number (sign_is (codes "(") open_ is.0)
no_number (an_abs w open_ f close) us is low no_ = ap is_number (keyword_is (codes "abs") w is.0)
no_number (a_pair func w open_ f comma g close) us is low no_ =
    pair_word func w is_number false is.0 (λ h. ap is_number (keyword_is (codes "min") w h)) (λ h. ap is_number (keyword_is (codes "max") w h))
no_number (a_clamp w open_ f comma g comma2 h close) us is low no_ = ap is_number (keyword_is (codes "clamp") w is.0)
no_number (a_rescale w open_ f comma n close) us is low no_ = ap is_number (keyword_is (codes "rescale") w is.0)
no_number (a_minus t f) us is low no_ = ap is_number (sign_is (codes "-") t is.0)
no_number (a_rest f t n) us is low no_ = absurd (omega (arith, low))
no_number (a_join op f t g) us is low no_ = absurd (omega (arith, low, some_tier op))
no_number (a_not t f) us is low no_ = absurd (omega (arith, low))
no_number (an_if t c u f v g) us is low no_ = absurd (omega (arith, low))

-- what an atom begins with is no minus
pub number_no_minus : (t : Lexeme) → IsNumber t → is_sign (codes "-") t ≡ false
number_no_minus t h = ap (is_sign (codes "-")) (number_is t h)

pub name_no_minus : (t : Lexeme) → IsName t → is_sign (codes "-") t ≡ false
name_no_minus t h = ap (is_sign (codes "-")) (name_is t h)

pub group_no_minus : (t : Lexeme) → IsSign (codes "(") t → is_sign (codes "-") t ≡ false
group_no_minus t h = ap (is_sign (codes "-")) (sign_is (codes "(") t h)

pub truth_no_minus : (value : Bool) (t : Lexeme) → IsTruth value t → is_sign (codes "-") t ≡ false
truth_no_minus value t is =
    truth_word value t (is_sign (codes "-")) false is (λ h. ap (is_sign (codes "-")) (keyword_is (codes "true") t h))
    (λ h. ap (is_sign (codes "-")) (keyword_is (codes "false") t h))

pub pair_no_minus : (func : Func) (w : Lexeme) → IsPairWord func w → is_sign (codes "-") w ≡ false
pair_no_minus func w is =
    pair_word func w (is_sign (codes "-")) false is (λ h. ap (is_sign (codes "-")) (keyword_is (codes "min") w h))
    (λ h. ap (is_sign (codes "-")) (keyword_is (codes "max") w h))

pub abs_no_minus : (t : Lexeme) → IsKeyword (codes "abs") t → is_sign (codes "-") t ≡ false
abs_no_minus t h = ap (is_sign (codes "-")) (keyword_is (codes "abs") t h)

pub clamp_no_minus : (t : Lexeme) → IsKeyword (codes "clamp") t → is_sign (codes "-") t ≡ false
clamp_no_minus t h = ap (is_sign (codes "-")) (keyword_is (codes "clamp") t h)

pub rescale_no_minus : (t : Lexeme) → IsKeyword (codes "rescale") t → is_sign (codes "-") t ≡ false
rescale_no_minus t h = ap (is_sign (codes "-")) (keyword_is (codes "rescale") t h)
