-- Each phrase without an operator is read.
use Rattle.std.proofs.Common.{◌≡◌, ℕ, cond, suc, ◌+◌, ◌≤◌, nat_lt, List, ◌∷◌, Bool, true, false, inl, inr, codes, None, Ok, Err, refl, ap, subst, ◌∙◌, arith}
use Rattle.std.proofs.lemmas.Bool.{cases_Bool}
use Rattle.std.proofs.lemmas.Bool.Decides.{nat_tests}
use Rattle.sot_text.specs.Reading.{Lexeme}
use Rattle.sot_syntax_tree.specs.declared.operator.Func.{Func}
use Rattle.sot_syntax_tree.specs.declared.tree.Lit.{Lit}
use Rattle.sot_syntax_tree.specs.Trees.{number, named, negated}
use Rattle.sot_expression.specs.Lexemes.{IsSign, IsName, IsNumber, begins, is_sign, is_keyword, is_name, is_number, ident, literal, negative_literal}
use Rattle.sot_expression.specs.Readers.{Read, ◌>>=◌, stuck, deep, expect, name_at, number_at, negative_at}
use Rattle.sot_expression.specs.ExpressionReaders.{Part, Reader, leaf, over, within, number_part, truth_part, field_at, named_at, group_at, opened_at}
use Rattle.sot_expression.specs.ExpressionReaders.{further_at, abs_at, pair_at, limits_at, clamp_at, target_at, rescale_at, held_group, begins_unary, above}
use Rattle.sot_expression.specs.ExpressionReaders.{minus_at}
use Rattle.sot_expression.specs.Phrases.{Phrase, a_number, a_truth, a_name, a_field, a_group, an_abs, a_pair, a_clamp, a_rescale, a_minus, a_rest, a_join}
use Rattle.sot_expression.specs.Phrases.{a_not, an_if, spelled, tier_of, IsPhrase, is_group, is_numeral, levels_of, part_of}
use Rattle.sot_expression.proofs.TokenTests.{sign_is, name_is, number_is}
use Rattle.sot_expression.proofs.Founds.{FitsIn, room_inside}
use Rattle.sot_expression.proofs.Soundness.{negated_is}
use Rattle.sot_expression.proofs.FirstTokens.{StopsAt, close_stops, comma_stops, some_levels, some_tier, no_number}
use Rattle.sot_expression.proofs.Chains.{step, ReadsAll, number_read, unheld}

pub sign_read : (w : List ℕ) (t : Lexeme) (ts : List Lexeme) → is_sign w t ≡ true → expect (is_sign w) (t ∷ ts) ≡ Ok (t.at, ts)
sign_read w t ts h = ap (λ b. cond b (Ok (t.at, ts)) (Err (stuck, t ∷ ts))) h

pub keyword_read : (w : List ℕ) (t : Lexeme) (ts : List Lexeme) → is_keyword w t ≡ true → expect (is_keyword w) (t ∷ ts) ≡ Ok (t.at, ts)
keyword_read w t ts h = ap (λ b. cond b (Ok (t.at, ts)) (Err (stuck, t ∷ ts))) h

open_read : (t : Lexeme) (ts : List Lexeme) → IsSign (codes "(") t → expect (is_sign (codes "(")) (t ∷ ts) ≡ Ok (t.at, ts)
open_read t ts h = sign_read (codes "(") t ts (ap (is_sign (codes "(")) (sign_is (codes "(") t h))

comma_read : (t : Lexeme) (ts : List Lexeme) → IsSign (codes ",") t → expect (is_sign (codes ",")) (t ∷ ts) ≡ Ok (t.at, ts)
comma_read t ts h = sign_read (codes ",") t ts (ap (is_sign (codes ",")) (sign_is (codes ",") t h))

close_read : (t : Lexeme) (ts : List Lexeme) → IsSign (codes ")") t → expect (is_sign (codes ")")) (t ∷ ts) ≡ Ok (t.at, ts)
close_read t ts h = sign_read (codes ")") t ts (ap (is_sign (codes ")")) (sign_is (codes ")") t h))

point_read : (t : Lexeme) (ts : List Lexeme) → IsSign (codes ".") t → expect (is_sign (codes ".")) (t ∷ ts) ≡ Ok (t.at, ts)
point_read t ts h = sign_read (codes ".") t ts (ap (is_sign (codes ".")) (sign_is (codes ".") t h))

name_read : (n : Lexeme) (ts : List Lexeme) → IsName n → name_at (n ∷ ts) ≡ Ok (ident n, ts)
name_read n ts h = ap (λ b. cond b (Ok (ident n, ts)) (Err (stuck, n ∷ ts))) (ap is_name (name_is n h))

negative_read : (t n : Lexeme) (ts : List Lexeme) → IsNumber n → negative_at t (n ∷ ts) ≡ Ok (negative_literal t n, ts)
negative_read t n ts h = ap (λ b. cond b (Ok (negative_literal t n, ts)) (Err (stuck, n ∷ ts))) (ap is_number (number_is n h))

-- leaves
pub numeral_read : (n : Lexeme) (ts : List Lexeme) → IsNumber n → number_part (n ∷ ts) ≡ Ok (part_of (a_number n), ts)
unfolding number_part
numeral_read n ts h = step (number_at (n ∷ ts)) (λ n. Ok (leaf (number n.0), n.1)) (literal n, ts) (Ok (part_of (a_number n), ts)) (number_read n ts h) refl

pub truth_read : (value : Bool) (t : Lexeme) (ts : List Lexeme) → truth_part value (t ∷ ts) ≡ Ok (part_of (a_truth value t), ts)
unfolding truth_part
truth_read value t ts = refl

pub field_read : (n dot f : Lexeme) (ts : List Lexeme) → IsSign (codes ".") dot → IsName f
    → field_at (ident n) (dot ∷ f ∷ ts) ≡ Ok (part_of (a_field n dot f), ts)
unfolding field_at
field_read n dot f ts point is =
    step (expect (is_sign (codes ".")) (dot ∷ f ∷ ts)) _ (dot.at, f ∷ ts) (Ok (part_of (a_field n dot f), ts)) (point_read dot (f ∷ ts) point)
    (step (name_at (f ∷ ts)) _ (ident f, ts) (Ok (part_of (a_field n dot f), ts)) (name_read f ts is) refl)

pub named_read : (n : Lexeme) (ts : List Lexeme) (y : Read Part) → IsName n
    → cond (begins (is_sign (codes ".")) ts) (field_at (ident n) ts) (Ok (leaf (named (ident n) None), ts)) ≡ y → named_at (n ∷ ts) ≡ y
unfolding named_at
named_read n ts y is h = step (name_at (n ∷ ts)) _ (ident n, ts) y (name_read n ts is) h

-- parentheses
pub group_fits : (room : ℕ) (t : Lexeme) (f : Phrase) (u : Lexeme) → levels_of (a_group t f u) ≤ room → FitsIn room true f
group_fits room t f u le = elim (cases_Bool (is_group f)) [
  | inl yes_ ↦ (let h : 1 + levels_of f ≤ room = subst (λ (b : Bool). cond b (1 + levels_of f) (levels_of f) ≤ room) yes_ le in
      (omega (arith, h), λ _ _. omega (arith, h)))
  | inr no_ ↦ (let h : levels_of f ≤ room = subst (λ (b : Bool). cond b (1 + levels_of f) (levels_of f) ≤ room) no_ le in (h, λ _ yes_. absurd cc))
]

group_read : (room : ℕ) (inner : Reader) → ReadsAll 7 room true inner → (t : Lexeme) (f : Phrase) (u : Lexeme) (ts : List Lexeme) → IsPhrase f → tier_of f ≤ 7
    → IsSign (codes ")") u → levels_of (a_group t f u) ≤ room
    → group_at inner (t ∷ spelled f (u ∷ ts)) ≡ Ok (part_of (a_group t f u), ts)
unfolding group_at
group_read room inner reads t f u ts is low close fits =
    step (inner (spelled f (u ∷ ts))) _ (part_of f, u ∷ ts) (Ok (part_of (a_group t f u), ts))
    (reads f is low (group_fits room t f u fits) (u ∷ ts) (close_stops 7 u ts close))
    (step (expect (is_sign (codes ")")) (u ∷ ts)) _ (u.at, ts) (Ok (part_of (a_group t f u), ts)) (close_read u ts close) refl)

pub within_read : (r : ℕ) (ts : List Lexeme) (m y : Read Part) → 1 ≤ r → m ≡ y → within (suc r) ts m ≡ y
within_read r ts m y some h = let test : nat_lt (suc r) 2 ≡ false = grind (arith, nat_tests) in ap (λ b. cond b (Err (deep, ts)) m) test ∙ h

pub held_read : (r : ℕ) (held : Bool) (inner : Reader) → ReadsAll 7 (room_inside r held) true inner → (t : Lexeme) (f : Phrase) (u : Lexeme) (ts : List Lexeme)
    → IsPhrase f → tier_of f ≤ 7 → IsSign (codes ")") u → FitsIn (suc r) held (a_group t f u)
    → held_group (suc r) held inner (t ∷ spelled f (u ∷ ts)) ≡ Ok (part_of (a_group t f u), ts)
held_read r true inner reads t f u ts is low close fits =
    let less : levels_of (a_group t f u) + 1 ≤ suc r = fits.1 refl refl in
    let some = some_levels (a_group t f u) in
    within_read r (t ∷ spelled f (u ∷ ts)) (group_at inner (t ∷ spelled f (u ∷ ts))) (Ok (part_of (a_group t f u), ts)) (omega (arith, less, some))
    (group_read r inner reads t f u ts is low close (omega (arith, less)))
held_read r false inner reads t f u ts is low close fits = group_read (suc r) inner reads t f u ts is low close fits.0

-- calls
opened_read : (r : ℕ) (part : Reader) → ReadsAll 7 r false part → (t : Lexeme) (f : Phrase) (ts : List Lexeme) → IsSign (codes "(") t → IsPhrase f
    → tier_of f ≤ 7 → levels_of f ≤ r → StopsAt 7 ts → opened_at part (t ∷ spelled f ts) ≡ Ok (part_of f, ts)
unfolding opened_at
opened_read r part reads t f ts word is low fits stops =
    step (expect (is_sign (codes "(")) (t ∷ spelled f ts)) (λ s. part s.1) (t.at, spelled f ts) (Ok (part_of f, ts)) (open_read t (spelled f ts) word)
    (reads f is low (unheld r f fits) ts stops)

further_read : (r : ℕ) (part : Reader) → ReadsAll 7 r false part → (t : Lexeme) (f : Phrase) (ts : List Lexeme) → IsSign (codes ",") t → IsPhrase f
    → tier_of f ≤ 7 → levels_of f ≤ r → StopsAt 7 ts → further_at part (t ∷ spelled f ts) ≡ Ok (part_of f, ts)
unfolding further_at
further_read r part reads t f ts word is low fits stops =
    step (expect (is_sign (codes ",")) (t ∷ spelled f ts)) (λ s. part s.1) (t.at, spelled f ts) (Ok (part_of f, ts)) (comma_read t (spelled f ts) word)
    (reads f is low (unheld r f fits) ts stops)

pub abs_read : (r : ℕ) (part : Reader) → ReadsAll 7 r false part → (w o : Lexeme) (f : Phrase) (u : Lexeme) (ts : List Lexeme) → IsPhrase (an_abs w o f u)
    → tier_of f ≤ 7 → levels_of f ≤ r
    → abs_at part (spelled (an_abs w o f u) ts) ≡ Ok (part_of (an_abs w o f u), ts)
unfolding abs_at
abs_read r part reads w o f u ts is low fits =
    let y : Read Part = Ok (part_of (an_abs w o f u), ts) in
    step (opened_at part (o ∷ spelled f (u ∷ ts))) _ (part_of f, u ∷ ts) y (opened_read r part reads o f (u ∷ ts) is.1 is.2 low fits (close_stops 7 u ts is.3))
    (step (expect (is_sign (codes ")")) (u ∷ ts)) _ (u.at, ts) y (close_read u ts is.3) refl)

pub pair_read : (r : ℕ) (part : Reader) → ReadsAll 7 r false part
    → (func : Func) (w o : Lexeme) (f : Phrase) (c : Lexeme) (g : Phrase) (u : Lexeme) (ts : List Lexeme) → IsPhrase (a_pair func w o f c g u) → tier_of f ≤ 7
    → tier_of g ≤ 7 → levels_of f ≤ r → levels_of g ≤ r
    → pair_at func part (spelled (a_pair func w o f c g u) ts) ≡ Ok (part_of (a_pair func w o f c g u), ts)
unfolding pair_at
pair_read r part reads func w o f c g u ts is low_f low_g fits_f fits_g =
    let y : Read Part = Ok (part_of (a_pair func w o f c g u), ts) in
    step (opened_at part (o ∷ spelled f (c ∷ spelled g (u ∷ ts)))) _ (part_of f, c ∷ spelled g (u ∷ ts)) y
    (opened_read r part reads o f (c ∷ spelled g (u ∷ ts)) is.1 is.2 low_f fits_f (comma_stops 7 c (spelled g (u ∷ ts)) is.3))
    (step (further_at part (c ∷ spelled g (u ∷ ts))) _ (part_of g, u ∷ ts) y
    (further_read r part reads c g (u ∷ ts) is.3 is.4 low_g fits_g (close_stops 7 u ts is.5))
    (step (expect (is_sign (codes ")")) (u ∷ ts)) _ (u.at, ts) y (close_read u ts is.5) refl))

pub clamp_read : (r : ℕ) (part : Reader) → ReadsAll 7 r false part
    → (w o : Lexeme) (f : Phrase) (c : Lexeme) (g : Phrase) (d : Lexeme) (h : Phrase) (u : Lexeme) (ts : List Lexeme) → IsPhrase (a_clamp w o f c g d h u)
    → tier_of f ≤ 7 → tier_of g ≤ 7 → tier_of h ≤ 7 → levels_of f ≤ r → levels_of g ≤ r → levels_of h ≤ r
    → clamp_at part (spelled (a_clamp w o f c g d h u) ts) ≡ Ok (part_of (a_clamp w o f c g d h u), ts)
unfolding clamp_at limits_at
clamp_read r part reads w o f c g d h u ts is low_f low_g low_h fits_f fits_g fits_h =
    let y : Read Part = Ok (part_of (a_clamp w o f c g d h u), ts) in
    let last : List Lexeme = d ∷ spelled h (u ∷ ts) in
    let more : List Lexeme = c ∷ spelled g last in
    step (opened_at part (o ∷ spelled f more)) _ (part_of f, more) y
    (opened_read r part reads o f more is.1 is.2 low_f fits_f (comma_stops 7 c (spelled g last) is.3))
    (step (limits_at part more) _ ((part_of g, part_of h), ts) y
    (step (further_at part more) _ (part_of g, last) (Ok ((part_of g, part_of h), ts))
    (further_read r part reads c g last is.3 is.4 low_g fits_g (comma_stops 7 d (spelled h (u ∷ ts)) is.5))
    (step (further_at part last) _ (part_of h, u ∷ ts) (Ok ((part_of g, part_of h), ts))
    (further_read r part reads d h (u ∷ ts) is.5 is.6 low_h fits_h (close_stops 7 u ts is.7))
    (step (expect (is_sign (codes ")")) (u ∷ ts)) _ (u.at, ts) (Ok ((part_of g, part_of h), ts)) (close_read u ts is.7) refl))) refl)

pub rescale_read : (r : ℕ) (part : Reader) → ReadsAll 7 r false part → (w o : Lexeme) (f : Phrase) (c n u : Lexeme) (ts : List Lexeme)
    → IsPhrase (a_rescale w o f c n u) → tier_of f ≤ 7 → levels_of f ≤ r
    → rescale_at part (spelled (a_rescale w o f c n u) ts) ≡ Ok (part_of (a_rescale w o f c n u), ts)
unfolding rescale_at target_at
rescale_read r part reads w o f c n u ts is low fits =
    let y : Read Part = Ok (part_of (a_rescale w o f c n u), ts) in
    let z : Read Lit = Ok (literal n, ts) in
    step (opened_at part (o ∷ spelled f (c ∷ n ∷ u ∷ ts))) _ (part_of f, c ∷ n ∷ u ∷ ts) y
    (opened_read r part reads o f (c ∷ n ∷ u ∷ ts) is.1 is.2 low fits (comma_stops 7 c (n ∷ u ∷ ts) is.3))
    (step (target_at (c ∷ n ∷ u ∷ ts)) _ (literal n, ts) y
    (step (expect (is_sign (codes ",")) (c ∷ n ∷ u ∷ ts)) _ (c.at, n ∷ u ∷ ts) z (comma_read c (n ∷ u ∷ ts) is.3)
    (step (number_at (n ∷ u ∷ ts)) _ (literal n, u ∷ ts) z (number_read n (u ∷ ts) is.4)
    (step (expect (is_sign (codes ")")) (u ∷ ts)) _ (u.at, ts) z (close_read u ts is.5) refl))) refl)

-- a minus
negative_is_read : (room : ℕ) (operand : Reader) (t n : Lexeme) (ts : List Lexeme) → IsNumber n
    → minus_at room t operand (n ∷ ts) ≡ Ok (part_of (a_minus t (a_number n)), ts)
unfolding minus_at
negative_is_read room operand t n ts is =
    ap (λ b. cond b (negative_at t (n ∷ ts) >>= λ m. Ok (leaf (number m.0), m.1))
    (cond (nat_lt room 2) (Err (cond (begins_unary (n ∷ ts)) deep stuck, n ∷ ts)) (above (λ p. over (negated p.tree t.at) p.levels) (operand (n ∷ ts)))))
    (ap is_number (number_is n is))
    ∙ step (negative_at t (n ∷ ts)) (λ m. Ok (leaf (number m.0), m.1)) (negative_literal t n, ts) (Ok (part_of (a_minus t (a_number n)), ts))
    (negative_read t n ts is) refl

negation_is_read : (r : ℕ) (operand : Reader) → ReadsAll 0 r false operand → (t : Lexeme) (f : Phrase) (ts : List Lexeme) → IsPhrase f → tier_of f ≡ 0
    → is_numeral f ≡ false → levels_of (a_minus t f) ≤ suc r → StopsAt 0 ts
    → minus_at (suc r) t operand (spelled f ts) ≡ Ok (part_of (a_minus t f), ts)
unfolding minus_at
negation_is_read r operand reads t f ts is low no_ fits stops =
    let levels : 1 + levels_of f ≤ suc r = subst (λ (b : Bool). cond b 1 (1 + levels_of f) ≤ suc r) no_ fits in
    let other = no_number f ts is low no_ in
    let some = some_levels f in
    let test : nat_lt (suc r) 2 ≡ false = grind (arith, nat_tests) in
    ap (λ b. cond b (negative_at t (spelled f ts) >>= λ m. Ok (leaf (number m.0), m.1))
    (cond (nat_lt (suc r) 2) (Err (cond (begins_unary (spelled f ts)) deep stuck, spelled f ts))
    (above (λ p. over (negated p.tree t.at) p.levels) (operand (spelled f ts))))) other
    ∙ ap (λ b. cond b (Err (cond (begins_unary (spelled f ts)) deep stuck, spelled f ts))
    (above (λ p. over (negated p.tree t.at) p.levels) (operand (spelled f ts)))) test
    ∙ step (operand (spelled f ts)) (λ p. Ok (over (negated p.0.tree t.at) p.0.levels, p.1)) (part_of f, ts) (Ok (part_of (a_minus t f), ts))
    (reads f is (omega (arith, low)) (unheld r f (omega (arith, levels))) ts stops) (ap (λ (p : Part). Ok (p, ts)) (negated_is t f ts is other))

pub minus_read : (r : ℕ) (operand : Reader) → ReadsAll 0 r false operand → (t : Lexeme) (f : Phrase) (ts : List Lexeme) → IsPhrase f → tier_of f ≡ 0
    → levels_of (a_minus t f) ≤ suc r → StopsAt 0 ts → minus_at (suc r) t operand (spelled f ts) ≡ Ok (part_of (a_minus t f), ts)
minus_read r operand reads t (a_number n) ts is low fits stops = negative_is_read (suc r) operand t n ts is
minus_read r operand reads t (a_truth value w) ts is low fits stops = negation_is_read r operand reads t (a_truth value w) ts is low refl fits stops
minus_read r operand reads t (a_name n) ts is low fits stops = negation_is_read r operand reads t (a_name n) ts is low refl fits stops
minus_read r operand reads t (a_field n dot f) ts is low fits stops = negation_is_read r operand reads t (a_field n dot f) ts is low refl fits stops
minus_read r operand reads t (a_group o f u) ts is low fits stops = negation_is_read r operand reads t (a_group o f u) ts is low refl fits stops
minus_read r operand reads t (an_abs w o f u) ts is low fits stops = negation_is_read r operand reads t (an_abs w o f u) ts is low refl fits stops
minus_read r operand reads t (a_pair func w o f d g u) ts is low fits stops =
    negation_is_read r operand reads t (a_pair func w o f d g u) ts is low refl fits stops
minus_read r operand reads t (a_clamp w o f d g e h u) ts is low fits stops =
    negation_is_read r operand reads t (a_clamp w o f d g e h u) ts is low refl fits stops
minus_read r operand reads t (a_rescale w o f d n u) ts is low fits stops = negation_is_read r operand reads t (a_rescale w o f d n u) ts is low refl fits stops
minus_read r operand reads t (a_minus w f) ts is low fits stops = negation_is_read r operand reads t (a_minus w f) ts is low refl fits stops
minus_read r operand reads t (a_rest f w n) ts is low fits stops = absurd (omega (arith, low))
minus_read r operand reads t (a_join op f w g) ts is low fits stops = absurd (omega (arith, low, some_tier op))
minus_read r operand reads t (a_not w f) ts is low fits stops = absurd (omega (arith, low))
minus_read r operand reads t (an_if w c u f v g) ts is low fits stops = absurd (omega (arith, low))
