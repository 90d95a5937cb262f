-- The tests on tokens, and what passes them.
use Rattle.std.proofs.Common.{◌≡◌, ℕ, ◌==◌, ◌&&◌, cond, List, [], ◌∷◌, Bool, true, false, codes, Option, Some, None, refl, sym, ap, subst, ◌∙◌, arith}
use Rattle.std.proofs.lemmas.Bool.Decides.{nat_tests}
use Rattle.std.proofs.lemmas.Slice.Eq.{bytes_eq-Decides}
use Rattle.std.specs.Str.{bytes_eq}
use Rattle.sot_text.specs.declared.token.Kind.{Kind}
use Rattle.sot_text.specs.declared.token.Kind.TheVariants.{Name, Keyword, Number, Sign}
use Rattle.sot_text.specs.Reading.{Lexeme}
use Rattle.sot_syntax_tree.specs.declared.operator.Op.{Op}
use Rattle.sot_syntax_tree.specs.declared.operator.Op.TheVariants.{Add, Sub, Mul, Div, Less, LessEqual, Greater, GreaterEqual, Equal, NotEqual, And, Or}
use Rattle.sot_syntax_tree.specs.declared.operator.Func.{Func}
use Rattle.sot_syntax_tree.specs.declared.operator.Func.TheVariants.{Min, Max, Abs, Clamp}
use Rattle.sot_expression.specs.declared.operators.Infix.{Infix}
use Rattle.sot_expression.specs.declared.operators.Infix.TheVariants.{Joins, Rests}
use Rattle.sot_expression.specs.declared.operators.Opening.{Opening}
use Rattle.sot_expression.specs.declared.operators.Opening.TheVariants as openings
use Rattle.sot_expression.specs.Lexemes.{IsKeyword, IsSign, IsName, IsNumber, is_keyword_kind, is_sign_kind, is_name_kind, is_number_kind, is_keyword, is_sign}
use Rattle.sot_expression.specs.Lexemes.{is_name, is_number}
use Rattle.sot_expression.specs.Operators.{operator_of, tier_of_infix, of_tier, infix_at, opening_of}
use Rattle.sot_expression.specs.Phrases.{IsTruth, IsPairWord, IsOperator}

-- what passes a test
sign_kind : (k : Kind) → is_sign_kind k ≡ true → k ≡ Sign
sign_kind Name e = absurd cc
sign_kind Keyword e = absurd cc
sign_kind Number e = absurd cc
sign_kind Sign e = refl

keyword_kind : (k : Kind) → is_keyword_kind k ≡ true → k ≡ Keyword
keyword_kind Name e = absurd cc
keyword_kind Keyword e = refl
keyword_kind Number e = absurd cc
keyword_kind Sign e = absurd cc

name_kind : (k : Kind) → is_name_kind k ≡ true → k ≡ Name
name_kind Name e = refl
name_kind Keyword e = absurd cc
name_kind Number e = absurd cc
name_kind Sign e = absurd cc

number_kind : (k : Kind) → is_number_kind k ≡ true → k ≡ Number
number_kind Name e = absurd cc
number_kind Keyword e = absurd cc
number_kind Number e = refl
number_kind Sign e = absurd cc

both_true : (a b : Bool) → (a && b) ≡ true → (a ≡ true) × (b ≡ true)
both_true true b e = (refl, e)
both_true false b e = absurd cc

pub sign_ok : (w : List ℕ) (t : Lexeme) → is_sign w t ≡ true → IsSign w t
sign_ok w t e =
    let h = both_true (is_sign_kind t.kind) (bytes_eq t.text w) e in record { kind = sign_kind t.kind h.0; text_is = (bytes_eq-Decides t.text w).0 h.1 }

pub keyword_ok : (w : List ℕ) (t : Lexeme) → is_keyword w t ≡ true → IsKeyword w t
keyword_ok w t e =
    let h = both_true (is_keyword_kind t.kind) (bytes_eq t.text w) e in record { kind = keyword_kind t.kind h.0; text_is = (bytes_eq-Decides t.text w).0 h.1 }

pub name_ok : (t : Lexeme) → is_name t ≡ true → IsName t
name_ok t e = name_kind t.kind e

pub number_ok : (t : Lexeme) → is_number t ≡ true → IsNumber t
number_ok t e = number_kind t.kind e

-- a token as its kind and its text tell it
pub sign_is : (w : List ℕ) (t : Lexeme) → IsSign w t → t ≡ record { kind = Sign; text = w; at = t.at; to = t.to }
sign_is w t h =
    ap (λ (k : Kind). record { kind = k; text = t.text; at = t.at; to = t.to }) h.kind
    ∙ ap (λ (x : List ℕ). record { kind = Sign; text = x; at = t.at; to = t.to }) h.text_is

pub keyword_is : (w : List ℕ) (t : Lexeme) → IsKeyword w t → t ≡ record { kind = Keyword; text = w; at = t.at; to = t.to }
keyword_is w t h =
    ap (λ (k : Kind). record { kind = k; text = t.text; at = t.at; to = t.to }) h.kind
    ∙ ap (λ (x : List ℕ). record { kind = Keyword; text = x; at = t.at; to = t.to }) h.text_is

pub name_is : (t : Lexeme) → IsName t → t ≡ record { kind = Name; text = t.text; at = t.at; to = t.to }
name_is t h = ap (λ (k : Kind). record { kind = k; text = t.text; at = t.at; to = t.to }) h

pub number_is : (t : Lexeme) → IsNumber t → t ≡ record { kind = Number; text = t.text; at = t.at; to = t.to }
number_is t h = ap (λ (k : Kind). record { kind = k; text = t.text; at = t.at; to = t.to }) h

-- a choice of a list of cases
case_by : {A : Type 0} (P : A → Type 0) (b : Bool) (x rest : A) → (b ≡ true → P x) → P rest → P (cond b x rest)
case_by P true x rest f g = f refl
case_by P false x rest f g = g

-- the token that an operator is
abbrev pub IsInfix : Infix → Lexeme → Type 0
IsInfix (Joins op) t = IsOperator op t
IsInfix Rests t = IsSign (codes "%") t

abbrev pub IsSomeInfix : Lexeme → Option Infix → Type 0
IsSomeInfix t None = Unit {0}
IsSomeInfix t (Some o) = IsInfix o t

operator_tells : (t : Lexeme) → IsSomeInfix t (operator_of t)
operator_tells t =
    let P = IsSomeInfix t in
    case_by P (is_sign (codes "*") t) (Some (Joins Mul)) _ (sign_ok (codes "*") t)
    (case_by P (is_sign (codes "/") t) (Some (Joins Div)) _ (sign_ok (codes "/") t)
    (case_by P (is_sign (codes "%") t) (Some Rests) _ (sign_ok (codes "%") t)
    (case_by P (is_sign (codes "+") t) (Some (Joins Add)) _ (sign_ok (codes "+") t)
    (case_by P (is_sign (codes "-") t) (Some (Joins Sub)) _ (sign_ok (codes "-") t)
    (case_by P (is_sign (codes "<") t) (Some (Joins Less)) _ (sign_ok (codes "<") t)
    (case_by P (is_sign (codes "<=") t) (Some (Joins LessEqual)) _ (sign_ok (codes "<=") t)
    (case_by P (is_sign (codes ">") t) (Some (Joins Greater)) _ (sign_ok (codes ">") t)
    (case_by P (is_sign (codes ">=") t) (Some (Joins GreaterEqual)) _ (sign_ok (codes ">=") t)
    (case_by P (is_sign (codes "==") t) (Some (Joins Equal)) _ (sign_ok (codes "==") t)
    (case_by P (is_sign (codes "!=") t) (Some (Joins NotEqual)) _ (sign_ok (codes "!=") t)
    (case_by P (is_keyword (codes "and") t) (Some (Joins And)) _ (keyword_ok (codes "and") t)
    (case_by P (is_keyword (codes "or") t) (Some (Joins Or)) None (keyword_ok (codes "or") t) tt))))))))))))

pub operator_ok : (t : Lexeme) (o : Infix) → operator_of t ≡ Some o → IsInfix o t
operator_ok t o e = subst (IsSomeInfix t) e (operator_tells t)

pub join_is : (op : Op) (t : Lexeme) → IsOperator op t → operator_of t ≡ Some (Joins op)
join_is Add t h = ap operator_of (sign_is (codes "+") t h)
join_is Sub t h = ap operator_of (sign_is (codes "-") t h)
join_is Mul t h = ap operator_of (sign_is (codes "*") t h)
join_is Div t h = ap operator_of (sign_is (codes "/") t h)
join_is Less t h = ap operator_of (sign_is (codes "<") t h)
join_is LessEqual t h = ap operator_of (sign_is (codes "<=") t h)
join_is Greater t h = ap operator_of (sign_is (codes ">") t h)
join_is GreaterEqual t h = ap operator_of (sign_is (codes ">=") t h)
join_is Equal t h = ap operator_of (sign_is (codes "==") t h)
join_is NotEqual t h = ap operator_of (sign_is (codes "!=") t h)
join_is And t h = ap operator_of (keyword_is (codes "and") t h)
join_is Or t h = ap operator_of (keyword_is (codes "or") t h)

pub rest_is : (t : Lexeme) → IsSign (codes "%") t → operator_of t ≡ Some Rests
rest_is t h = ap operator_of (sign_is (codes "%") t h)

of_tier_some : (tier : ℕ) (b : Bool) (o p : Infix) → (tier_of_infix o == tier) ≡ b → cond b (Some o) None ≡ Some p
    → (Some o ≡ Some p) × (tier_of_infix o ≡ tier)
of_tier_some tier true o p test e = (e, grind (arith, nat_tests))
of_tier_some tier false o p test e = absurd cc

of_tier_ok : (tier : ℕ) (m : Option Infix) (o : Infix) → of_tier tier m ≡ Some o → (m ≡ Some o) × (tier_of_infix o ≡ tier)
of_tier_ok tier None o e = absurd cc
of_tier_ok tier (Some p) o e =
    let h = of_tier_some tier (tier_of_infix p == tier) p o refl e in
    let same : p ≡ o = cc in
    (h.0, sym (ap tier_of_infix same) ∙ h.1)

-- an operator that is found at a tier
pub infix_ok : (tier : ℕ) (t : Lexeme) (ts : List Lexeme) (o : Infix) → infix_at tier (t ∷ ts) ≡ Some o → IsInfix o t × (tier_of_infix o ≡ tier)
infix_ok tier t ts o e = let h = of_tier_ok tier (operator_of t) o e in (operator_ok t o h.0, h.1)

pub infix_end : (tier : ℕ) (o : Infix) → infix_at tier [] ≡ Some o → ⊥
infix_end tier o e = absurd cc

of_tier_is : (tier : ℕ) (o : Infix) → tier_of_infix o ≡ tier → of_tier tier (Some o) ≡ Some o
of_tier_is tier o e = let test : (tier_of_infix o == tier) ≡ true = grind (arith, nat_tests) in ap (λ b. cond b (Some o) None) test

pub infix_is : (tier : ℕ) (t : Lexeme) (ts : List Lexeme) (o : Infix) → operator_of t ≡ Some o → tier_of_infix o ≡ tier → infix_at tier (t ∷ ts) ≡ Some o
infix_is tier t ts o e same = ap (of_tier tier) e ∙ of_tier_is tier o same

-- the token that an atom begins with
abbrev pub IsOpening : Lexeme → Opening → Type 0
IsOpening t openings.Number = IsNumber t
IsOpening t openings.Name = IsName t
IsOpening t openings.Group = IsSign (codes "(") t
IsOpening t (openings.Truth value) = IsTruth value t
IsOpening t (openings.Pair func) = IsPairWord func t
IsOpening t openings.Abs = IsKeyword (codes "abs") t
IsOpening t openings.Clamp = IsKeyword (codes "clamp") t
IsOpening t openings.Rescale = IsKeyword (codes "rescale") t
IsOpening t openings.Other = Unit {0}

pub opening_tells : (t : Lexeme) → IsOpening t (opening_of t)
opening_tells t =
    let P = IsOpening t in
    case_by P (is_number t) openings.Number _ (number_ok t)
    (case_by P (is_name t) openings.Name _ (name_ok t)
    (case_by P (is_sign (codes "(") t) openings.Group _ (sign_ok (codes "(") t)
    (case_by P (is_keyword (codes "true") t) (openings.Truth true) _ (keyword_ok (codes "true") t)
    (case_by P (is_keyword (codes "false") t) (openings.Truth false) _ (keyword_ok (codes "false") t)
    (case_by P (is_keyword (codes "min") t) (openings.Pair Min) _ (keyword_ok (codes "min") t)
    (case_by P (is_keyword (codes "max") t) (openings.Pair Max) _ (keyword_ok (codes "max") t)
    (case_by P (is_keyword (codes "abs") t) openings.Abs _ (keyword_ok (codes "abs") t)
    (case_by P (is_keyword (codes "clamp") t) openings.Clamp _ (keyword_ok (codes "clamp") t)
    (case_by P (is_keyword (codes "rescale") t) openings.Rescale openings.Other (keyword_ok (codes "rescale") t) tt)))))))))

pub number_opens : (t : Lexeme) → IsNumber t → opening_of t ≡ openings.Number
number_opens t h = ap opening_of (number_is t h)

pub name_opens : (t : Lexeme) → IsName t → opening_of t ≡ openings.Name
name_opens t h = ap opening_of (name_is t h)

pub group_opens : (t : Lexeme) → IsSign (codes "(") t → opening_of t ≡ openings.Group
group_opens t h = ap opening_of (sign_is (codes "(") t h)

pub truth_opens : (value : Bool) (t : Lexeme) → IsTruth value t → opening_of t ≡ openings.Truth value
truth_opens true t h = ap opening_of (keyword_is (codes "true") t h)
truth_opens false t h = ap opening_of (keyword_is (codes "false") t h)

pub pair_opens : (func : Func) (t : Lexeme) → IsPairWord func t → opening_of t ≡ openings.Pair func
pair_opens Min t h = ap opening_of (keyword_is (codes "min") t h)
pair_opens Max t h = ap opening_of (keyword_is (codes "max") t h)
pair_opens Abs t h = absurd h
pair_opens Clamp t h = absurd h

pub abs_opens : (t : Lexeme) → IsKeyword (codes "abs") t → opening_of t ≡ openings.Abs
abs_opens t h = ap opening_of (keyword_is (codes "abs") t h)

pub clamp_opens : (t : Lexeme) → IsKeyword (codes "clamp") t → opening_of t ≡ openings.Clamp
clamp_opens t h = ap opening_of (keyword_is (codes "clamp") t h)

pub rescale_opens : (t : Lexeme) → IsKeyword (codes "rescale") t → opening_of t ≡ openings.Rescale
rescale_opens t h = ap opening_of (keyword_is (codes "rescale") t h)
