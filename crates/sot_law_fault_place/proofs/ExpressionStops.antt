-- Expressions: where reading stops, what was read begins one.
use Rattle.std.proofs.Common.{◌≡◌, ℕ, zero, suc, cond, ◌≤◌, ◌==◌, ◌||◌, not, nat_lt, max, if◌then◌else◌, List, [], ◌∷◌, Bool, true, false, codes, Option, None}
use Rattle.std.proofs.Common.{Some, inl, inr, Ok, Err, refl, sym, ap, subst, ◌∙◌, arith}
use Rattle.std.proofs.lemmas.Bool.{cases_Bool}
use Rattle.std.proofs.lemmas.Bool.Decides.{nat_tests}
use Rattle.sot_text.specs.Reading.{Lexeme}
use Rattle.sot_syntax_tree.specs.declared.operator.Op.{Op}
use Rattle.sot_syntax_tree.specs.declared.operator.Func.{Func}
use Rattle.sot_syntax_tree.specs.declared.tree.Ident.{Ident}
use Rattle.sot_syntax_tree.specs.declared.tree.Lit.{Lit}
use Rattle.sot_syntax_tree.specs.Trees.{number, binary, rest, negated}
use Rattle.sot_expression.specs.declared.operators.Infix.{Infix}
use Rattle.sot_expression.specs.declared.operators.Infix.TheVariants.{Joins, Rests}
use Rattle.sot_expression.specs.declared.operators.Opening.{Opening}
use Rattle.sot_expression.specs.declared.operators.Opening.TheVariants as openings
use Rattle.sot_expression.specs.Lexemes.{IsKeyword, IsSign, begins, is_sign, is_keyword, is_number, ident, negative_literal}
use Rattle.sot_expression.specs.Readers.{Read, Fault, stuck, deep, ◌>>=◌, number_at, negative_at}
use Rattle.sot_expression.specs.Operators.{opening_of, infix_at, tier_of_op, tier_of_infix}
use Rattle.sot_expression.specs.ExpressionReaders.{Part, Reader, Around, leaf, over, above, is_other, chain_at, gone_on, joined_at, operation_at, remainder_at}
use Rattle.sot_expression.specs.ExpressionReaders.{number_part, truth_part, field_at, named_at, group_at, held_group, opened_at, further_at, abs_at, pair_at}
use Rattle.sot_expression.specs.ExpressionReaders.{limits_at, clamp_at, target_at, rescale_at, within, atom_from, atom_at, begins_unary, minus_at, unary_at}
use Rattle.sot_expression.specs.ExpressionReaders.{denied_at, denial_at, chosen_at, choice_at, turns, tier_at, part_at, expression_at, tree_at}
use Rattle.sot_expression.specs.Phrases.{Phrase, a_number, a_truth, a_name, a_field, a_group, an_abs, a_pair, a_clamp, a_rescale, a_minus, a_rest, a_join}
use Rattle.sot_expression.specs.Phrases.{a_not, an_if, spelled, IsPairWord, tier_of, left_tier, IsPhrase, tree_of, levels_of, part_of}
use Rattle.sot_expression.proofs.TokenTests.{IsOpening, IsInfix, opening_tells, infix_ok, infix_end, sign_ok, keyword_ok}
use Rattle.sot_expression.proofs.Founds.{Reads, room_inside}
use Rattle.sot_expression.proofs.EachRead.{around_of}
use Rattle.sot_expression.proofs.FirstTokens.{some_levels}
use Rattle.sot_expression.proofs.Soundness.{tier_ok, part_ok, left_least, once}
use Rattle.sot_parser.specs.Pieces.{Named, Sign, Keyword, Digits, maybe, spelled_sign, spelled_keyword, spelled_number}
use Rattle.sot_parser.specs.Statements.{spelled_expression, DotForm, spelled_dot}
use Rattle.sot_parser.proofs.SoundSteps.{Sound, Any, take, close, sign_sound, keyword_sound, name_sound, number_sound}
use Rattle.sot_law_fault_place.proofs.Stops.{err, both_begun, Spelling, Appends, Begun, Stop, Stops, Twin, both, inside, stop_inside, stops_inside, stop_in}
use Rattle.sot_law_fault_place.proofs.Stops.{either_stops, never_stops, too_deep, begun_behind, then_twin, last_twin, last_stops, then_stops}
use Rattle.sot_law_fault_place.proofs.Tokens.{close_parenthesis_real, comma_real, dot_real, open_parenthesis_real, begun_by, keyword, sign, name, digits}
use Rattle.sot_law_fault_place.proofs.Tokens.{stays_at, stop_behind, token_stops, keyword_twin, sign_twin, name_twin, number_twin}

pub spelled_append : (f : Phrase) → Appends (spelled f)
spelled_append (a_number n) us vs = refl
spelled_append (a_truth value t) us vs = refl
spelled_append (a_name n) us vs = refl
spelled_append (a_field n dot f) us vs = refl
spelled_append (a_group open_ f close) us vs = ap (λ ws. open_ ∷ ws) (spelled_append f (close ∷ us) vs)
spelled_append (an_abs w open_ f close) us vs = ap (λ ws. w ∷ open_ ∷ ws) (spelled_append f (close ∷ us) vs)
spelled_append (a_pair func w open_ f comma g close) us vs =
    ap (λ ws. w ∷ open_ ∷ ws) (ap (λ ws. spelled f (comma ∷ ws)) (spelled_append g (close ∷ us) vs) ∙ spelled_append f (comma ∷ spelled g (close ∷ us)) vs)
spelled_append (a_clamp w open_ f comma g comma2 h close) us vs =
    ap (λ ws. w ∷ open_ ∷ ws) (
    ap (λ ws. spelled f (comma ∷ ws)) (ap (λ ws. spelled g (comma2 ∷ ws)) (spelled_append h (close ∷ us) vs)
    ∙ spelled_append g (comma2 ∷ spelled h (close ∷ us)) vs)
    ∙ spelled_append f (comma ∷ spelled g (comma2 ∷ spelled h (close ∷ us))) vs)
spelled_append (a_rescale w open_ f comma n close) us vs = ap (λ ws. w ∷ open_ ∷ ws) (spelled_append f (comma ∷ n ∷ close ∷ us) vs)
spelled_append (a_minus t f) us vs = ap (λ ws. t ∷ ws) (spelled_append f us vs)
spelled_append (a_rest f t n) us vs = spelled_append f (t ∷ n ∷ us) vs
spelled_append (a_join op f t g) us vs = ap (λ ws. spelled f (t ∷ ws)) (spelled_append g us vs) ∙ spelled_append f (t ∷ spelled g us) vs
spelled_append (a_not t f) us vs = ap (λ ws. t ∷ ws) (spelled_append f us vs)
spelled_append (an_if t c u f v g) us vs =
    ap (λ ws. t ∷ ws) (
    ap (λ ws. spelled c (u ∷ ws)) (ap (λ ws. spelled f (v ∷ ws)) (spelled_append g us vs) ∙ spelled_append f (v ∷ spelled g us) vs)
    ∙ spelled_append c (u ∷ spelled f (v ∷ spelled g us)) vs)

-- a phrase of a tier at the most
pub record Phrased (tier : ℕ) : Type 0 where
  pub phrase : Phrase
  pub is : IsPhrase phrase
  pub low : tier_of phrase ≤ tier

abbrev pub spelled_phrased : {tier : ℕ} → Phrased tier → List Lexeme → List Lexeme
spelled_phrased p behind = spelled p.phrase behind

abbrev pub part_phrased : {tier : ℕ} → Phrased tier → Part
part_phrased p = part_of p.phrase

abbrev pub Phrases : (tier : ℕ) → Spelling (Phrased tier)
Phrases tier = spelled_phrased {tier = tier}

phrased_sound : (tier room : ℕ) (held : Bool) (g : Reader) → Reads tier room held g → Sound (Phrases tier) part_phrased Any g
phrased_sound tier room held g reads ts y e = let f = reads ts y e in (record { phrase = f.phrase; is = f.is; low = f.low }, tt, f.tokens, f.part)

abbrev looser : {a b : ℕ} → a ≤ b → Phrased a → Phrased b
looser le p = record { phrase = p.phrase; is = p.is; low = omega (arith, p.low, le) }

abbrev some_name : (tier : ℕ) → Phrased tier
some_name tier = record { phrase = a_name name.token; is = name.is; low = omega arith }

pub some_phrase : (tier : ℕ) → Begun (Phrases tier) []
some_phrase tier = begun_by (some_name tier) (name.token ∷ []) (refl, tt) (λ behind. refl)

phrase_twin : (tier : ℕ) (g : Reader) → Stops (Phrases tier) g → Twin (Phrases tier) g
phrase_twin tier g stops = record { appends = λ p. spelled_append p.phrase; some = some_phrase tier; stops = stops }

-- calls: the word, and a chain behind it
abbrev spelled_argument : Spelling (Sign (codes "(") × Phrased 7)
spelled_argument = both spelled_sign (Phrases 7)

abbrev spelled_comma : Spelling (Sign (codes ",") × Phrased 7)
spelled_comma = both spelled_sign (Phrases 7)

module _ (r : ℕ) (part : Reader) (reads : Reads 7 r false part) (twin : Twin (Phrases 7) part) where
  part_sound : Sound (Phrases 7) part_phrased Any part
  part_sound = phrased_sound 7 r false part reads

  opened_twin : Twin spelled_argument (opened_at part)
  unfolding opened_at
  opened_twin = then_twin (sign_sound (codes "(")) (sign_twin (codes "(") open_parenthesis_real) _ (λ _. twin)

  further_twin : Twin spelled_comma (further_at part)
  unfolding further_at
  further_twin = then_twin (sign_sound (codes ",")) (sign_twin (codes ",") comma_real) _ (λ _. twin)

  opened_sound : Sound spelled_argument (λ p. part_phrased p.1) Any (opened_at part)
  unfolding opened_at
  opened_sound = take (sign_sound (codes "(")) _ _ (λ open_ _. close part_sound _ (λ p _ us. ((open_, p), tt, refl, refl)))

  further_sound : Sound spelled_comma (λ p. part_phrased p.1) Any (further_at part)
  unfolding further_at
  further_sound = take (sign_sound (codes ",")) _ _ (λ comma _. close part_sound _ (λ p _ us. ((comma, p), tt, refl, refl)))

  abs_stops : (t : Lexeme) → IsKeyword (codes "abs") t → (ts : List Lexeme) (e : Fault × List Lexeme) → abs_at part (t ∷ ts) ≡ Err e
      → Stop (Phrases 0) e (t ∷ ts)
  unfolding abs_at
  abs_stops t word ts e eq =
      stop_behind t (λ p. record { phrase = an_abs t p.0.0.token p.0.1.phrase p.1.token; is = (word, p.0.0.is, p.0.1.is, p.1.is); low = omega arith })
      (λ p behind. refl) e ts
      (then_stops opened_sound opened_twin (sign_twin (codes ")") close_parenthesis_real).some _
      (λ _ _. last_stops (sign_twin (codes ")") close_parenthesis_real).stops (λ x. (_, refl))) ts e eq)

  abbrev spelled_pair_tail : Spelling ((Sign (codes ",") × Phrased 7) × Sign (codes ")"))
  spelled_pair_tail = both spelled_comma spelled_sign

  pair_tail : Begun spelled_pair_tail []
  pair_tail = both_begun [] further_twin.some (sign_twin (codes ")") close_parenthesis_real).some

  pair_stops : (func : Func) (t : Lexeme) → IsPairWord func t → (ts : List Lexeme) (e : Fault × List Lexeme) → pair_at func part (t ∷ ts) ≡ Err e
      → Stop (Phrases 0) e (t ∷ ts)
  unfolding pair_at
  pair_stops func t word ts e eq =
      stop_behind t (λ p. record {
        phrase = a_pair func t p.0.0.token p.0.1.phrase p.1.0.0.token p.1.0.1.phrase p.1.1.token;
        is = (word, p.0.0.is, p.0.1.is, p.1.0.0.is, p.1.0.1.is, p.1.1.is);
        low = omega arith;
      }) (λ p behind. refl) e ts
      (then_stops opened_sound opened_twin pair_tail _ (λ _ _.
      then_stops further_sound further_twin (sign_twin (codes ")") close_parenthesis_real).some _
      (λ _ _. last_stops (sign_twin (codes ")") close_parenthesis_real).stops (λ x. (_, refl)))) ts e eq)

  abbrev spelled_limits : Spelling ((Sign (codes ",") × Phrased 7) × ((Sign (codes ",") × Phrased 7) × Sign (codes ")")))
  spelled_limits = both spelled_comma spelled_pair_tail

  limits_stops : Stops spelled_limits (limits_at part)
  unfolding limits_at
  limits_stops =
      then_stops further_sound further_twin pair_tail _ (λ _ _.
      then_stops further_sound further_twin (sign_twin (codes ")") close_parenthesis_real).some _
      (λ _ _. last_stops (sign_twin (codes ")") close_parenthesis_real).stops (λ x. (_, refl))))

  clamp_stops : (t : Lexeme) → IsKeyword (codes "clamp") t → (ts : List Lexeme) (e : Fault × List Lexeme) → clamp_at part (t ∷ ts) ≡ Err e
      → Stop (Phrases 0) e (t ∷ ts)
  unfolding clamp_at
  clamp_stops t word ts e eq =
      stop_behind t (λ p. record {
        phrase = a_clamp t p.0.0.token p.0.1.phrase p.1.0.0.token p.1.0.1.phrase p.1.1.0.0.token p.1.1.0.1.phrase p.1.1.1.token;
        is = (word, p.0.0.is, p.0.1.is, p.1.0.0.is, p.1.0.1.is, p.1.1.0.0.is, p.1.1.0.1.is, p.1.1.1.is);
        low = omega arith;
      }) (λ p behind. refl) e ts
      (then_stops opened_sound opened_twin (both_begun [] further_twin.some pair_tail) _ (λ _ _. last_stops limits_stops (λ x. (_, refl))) ts e eq)

  abbrev spelled_target : Spelling (Sign (codes ",") × (Digits × Sign (codes ")")))
  spelled_target = both spelled_sign (both spelled_number spelled_sign)

  target_twin : Twin spelled_target target_at
  unfolding target_at
  target_twin =
      then_twin (sign_sound (codes ",")) (sign_twin (codes ",") comma_real) _
      (λ _. then_twin number_sound number_twin _ (λ _. last_twin (sign_twin (codes ")") close_parenthesis_real) (λ x. (_, refl))))

  rescale_stops : (t : Lexeme) → IsKeyword (codes "rescale") t → (ts : List Lexeme) (e : Fault × List Lexeme) → rescale_at part (t ∷ ts) ≡ Err e
      → Stop (Phrases 0) e (t ∷ ts)
  unfolding rescale_at
  rescale_stops t word ts e eq =
      stop_behind t (λ p. record {
        phrase = a_rescale t p.0.0.token p.0.1.phrase p.1.0.token p.1.1.0.token p.1.1.1.token;
        is = (word, p.0.0.is, p.0.1.is, p.1.0.is, p.1.1.0.is, p.1.1.1.is);
        low = omega arith;
      }) (λ p behind. refl) e ts
      (then_stops opened_sound opened_twin target_twin.some _ (λ _ _. last_stops target_twin.stops (λ x. (_, refl))) ts e eq)

  -- if
  abbrev spelled_choice : Spelling (Phrased 7 × (Keyword (codes "then") × (Phrased 7 × (Keyword (codes "else") × Phrased 7))))
  spelled_choice = both (Phrases 7) (both spelled_keyword (both (Phrases 7) (both spelled_keyword (Phrases 7))))

  chosen_stops : (t : Lexeme) → IsKeyword (codes "if") t → (ts : List Lexeme) (e : Fault × List Lexeme) → chosen_at part (t ∷ ts) ≡ Err e
      → Stop (Phrases 7) e (t ∷ ts)
  unfolding chosen_at
  chosen_stops t word ts e eq =
      let last : Begun (both (spelled_keyword {text = codes "else"}) (Phrases 7)) [] = both_begun [] (keyword_twin (codes "else") refl).some twin.some in
      let middle : Begun (both (Phrases 7) (both (spelled_keyword {text = codes "else"}) (Phrases 7))) [] = both_begun [] twin.some last in
      stop_behind t (λ p. record {
        phrase = an_if t p.0.phrase p.1.0.token p.1.1.0.phrase p.1.1.1.0.token p.1.1.1.1.phrase;
        is = (word, p.0.is, p.1.0.is, p.1.1.0.is, p.1.1.1.0.is, p.1.1.1.1.is);
        low = omega arith;
      }) (λ p behind. refl) e ts
      (then_stops {t = both (spelled_keyword {text = codes "then"}) (both (Phrases 7) (both (spelled_keyword {text = codes "else"}) (Phrases 7)))} part_sound
      twin (both_begun [] (keyword_twin (codes "then") refl).some middle) _ (λ _ _.
      then_stops (keyword_sound (codes "then")) (keyword_twin (codes "then") refl) middle _ (λ _ _.
      then_stops part_sound twin last _ (λ _ _.
      then_stops (keyword_sound (codes "else")) (keyword_twin (codes "else") refl) twin.some _ (λ _ _. last_stops twin.stops (λ x. (_, refl)))))) ts e eq)

-- parentheses
group_stops : (inner : Reader) (room : ℕ) (held : Bool) → Reads 7 room held inner → Stops (Phrases 7) inner → (t : Lexeme) → IsSign (codes "(") t
    → (ts : List Lexeme) (e : Fault × List Lexeme) → group_at inner (t ∷ ts) ≡ Err e → Stop (Phrases 0) e (t ∷ ts)
unfolding group_at
group_stops inner room held reads stops t word ts e eq =
    stop_behind t (λ p. record { phrase = a_group t p.0.phrase p.1.token; is = (word, p.0.is, p.1.is); low = omega arith }) (λ p behind. refl) e ts
    (then_stops (phrased_sound 7 room held inner reads) (phrase_twin 7 inner stops) (sign_twin (codes ")") close_parenthesis_real).some _
    (λ _ _. last_stops (sign_twin (codes ")") close_parenthesis_real).stops (λ x. (_, refl))) ts e eq)

-- names
abbrev dotted : Named → Option DotForm → Phrase
dotted n None = a_name n.token
dotted n (Some d) = a_field n.token d.dot.token d.name.token

dotted_is : (n : Named) (d : Option DotForm) → IsPhrase (dotted n d)
dotted_is n None = n.is
dotted_is n (Some d) = (n.is, d.dot.is, d.name.is)

dotted_low : (n : Named) (d : Option DotForm) → tier_of (dotted n d) ≤ 0
dotted_low n None = omega arith
dotted_low n (Some d) = omega arith

dotted_spelled : (n : Named) (d : Option DotForm) (behind : List Lexeme) → spelled (dotted n d) behind ≡ n.token ∷ maybe spelled_dot d behind
dotted_spelled n None behind = refl
dotted_spelled n (Some d) behind = refl

dot_stops : (first : Ident) → Stops spelled_dot (field_at first)
unfolding field_at
dot_stops first =
    stops_inside (λ p. record { dot = p.0; name = p.1 }) (λ p behind. refl)
    (then_stops (sign_sound (codes ".")) (sign_twin (codes ".") dot_real) name_twin.some _ (λ _ _. last_stops name_twin.stops (λ x. (_, refl))))

named_stops : Stops (Phrases 0) named_at
unfolding named_at
named_stops =
    stops_inside (λ p. record { phrase = dotted p.0 p.1; is = dotted_is p.0 p.1; low = dotted_low p.0 p.1 }) (λ p behind. dotted_spelled p.0 p.1 behind)
    (then_stops {t = maybe spelled_dot} name_sound name_twin (begun_by None [] tt (λ behind. refl)) _ (λ n _.
    either_stops (begins (is_sign (codes "."))) _ _ (stops_inside Some (λ f behind. refl) (dot_stops (ident n.token))) (never_stops _ (λ ts. (_, refl)))))

-- forms that begin with a token that begins an operand
opened_more : List Lexeme → List Lexeme
opened_more more = (sign (codes "(")).token ∷ more

opening_begun : (o : Opening) (t : Lexeme) → IsOpening t o → (o ≡ openings.Other → ⊥) → Begun (Phrases 0) (t ∷ [])
opening_begun openings.Number t word some =
    record { form = record { phrase = a_number t; is = word; low = omega arith }; more = []; real = tt; spells = λ behind. refl }
opening_begun openings.Name t word some =
    record { form = record { phrase = a_name t; is = word; low = omega arith }; more = []; real = tt; spells = λ behind. refl }
opening_begun openings.Group t word some = record {
  form = record { phrase = a_group t (a_name name.token) (sign (codes ")")).token; is = (word, name.is, (sign (codes ")")).is); low = omega arith };
  more = name.token ∷ (sign (codes ")")).token ∷ [];
  real = (refl, (close_parenthesis_real, tt));
  spells = λ behind. refl;
}
opening_begun (openings.Truth value) t word some =
    record { form = record { phrase = a_truth value t; is = word; low = omega arith }; more = []; real = tt; spells = λ behind. refl }
opening_begun (openings.Pair func) t word some = record {
  form = record {
    phrase = a_pair func t (sign (codes "(")).token (a_name name.token) (sign (codes ",")).token (a_name name.token) (sign (codes ")")).token;
    is = (word, (sign (codes "(")).is, name.is, (sign (codes ",")).is, name.is, (sign (codes ")")).is);
    low = omega arith;
  };
  more = (sign (codes "(")).token ∷ name.token ∷ (sign (codes ",")).token ∷ name.token ∷ (sign (codes ")")).token ∷ [];
  real = (open_parenthesis_real, (refl, (comma_real, (refl, (close_parenthesis_real, tt)))));
  spells = λ behind. refl;
}
opening_begun openings.Abs t word some = record {
  form =
      record {
        phrase = an_abs t (sign (codes "(")).token (a_name name.token) (sign (codes ")")).token;
        is = (word, (sign (codes "(")).is, name.is, (sign (codes ")")).is);
        low = omega arith;
      };
  more = (sign (codes "(")).token ∷ name.token ∷ (sign (codes ")")).token ∷ [];
  real = (open_parenthesis_real, (refl, (close_parenthesis_real, tt)));
  spells = λ behind. refl;
}
opening_begun openings.Clamp t word some = record {
  form = record {
    phrase =
        a_clamp t (sign (codes "(")).token (a_name name.token) (sign (codes ",")).token (a_name name.token) (sign (codes ",")).token (a_name name.token)
        (sign (codes ")")).token;
    is = (word, (sign (codes "(")).is, name.is, (sign (codes ",")).is, name.is, (sign (codes ",")).is, name.is, (sign (codes ")")).is);
    low = omega arith;
  };
  more = (sign (codes "(")).token ∷ name.token ∷ (sign (codes ",")).token ∷ name.token ∷ (sign (codes ",")).token ∷ name.token ∷ (sign (codes ")")).token ∷ [];
  real = (open_parenthesis_real, (refl, (comma_real, (refl, (comma_real, (refl, (close_parenthesis_real, tt)))))));
  spells = λ behind. refl;
}
opening_begun openings.Rescale t word some = record {
  form = record {
    phrase = a_rescale t (sign (codes "(")).token (a_name name.token) (sign (codes ",")).token digits.token (sign (codes ")")).token;
    is = (word, (sign (codes "(")).is, name.is, (sign (codes ",")).is, digits.is, (sign (codes ")")).is);
    low = omega arith;
  };
  more = (sign (codes "(")).token ∷ name.token ∷ (sign (codes ",")).token ∷ digits.token ∷ (sign (codes ")")).token ∷ [];
  real = (open_parenthesis_real, (refl, (comma_real, (refl, (close_parenthesis_real, tt)))));
  spells = λ behind. refl;
}
opening_begun openings.Other t word some = absurd (some refl)

minus_begun : (t : Lexeme) → IsSign (codes "-") t → Begun (Phrases 0) (t ∷ [])
minus_begun t word =
    record {
      form = record { phrase = a_minus t (a_name name.token); is = (word, name.is, refl); low = omega arith };
      more = name.token ∷ [];
      real = (refl, tt);
      spells = λ behind. refl;
    }

-- what needs two levels
within_stops : {F : Type 0} {s : Spelling F} (room : ℕ) (t : Lexeme) (ts : List Lexeme) (m : Read Part) (e : Fault × List Lexeme) → Begun s (t ∷ [])
    → (nat_lt room 2 ≡ false → m ≡ Err e → Stop s e (t ∷ ts)) → within room (t ∷ ts) m ≡ Err e → Stop s e (t ∷ ts)
within_stops {s = s} room t ts m e begun next eq = by (nat_lt room 2) refl eq
  where
    by : (b : Bool) → nat_lt room 2 ≡ b → cond b (Err (deep, t ∷ ts)) m ≡ Err e → Stop s e (t ∷ ts)
    by true is e1 = too_deep t begun ts e cc
    by false is e1 = next is e1

room_for : (r : ℕ) → nat_lt (suc r) 2 ≡ false → 1 ≤ r
room_for r small = grind (arith, nat_tests)

number_stops : Stops (Phrases 0) number_part
unfolding number_part
number_stops =
    stops_inside (λ n. record { phrase = a_number n.token; is = n.is; low = omega arith }) (λ n behind. refl) (last_stops number_twin.stops (λ x. (_, refl)))

-- the part of an operand that begins behind a minus
begun_operand : (t : Lexeme) (ts : List Lexeme) → begins_unary (t ∷ ts) ≡ true → Begun (Phrases 0) (t ∷ [])
begun_operand t ts is = by (opening_of t) refl (opening_tells t) is
  where
    or_minus : (b : Bool) → (b || is_sign (codes "-") t) ≡ true → b ≡ false → is_sign (codes "-") t ≡ true
    or_minus true e no_ = absurd cc
    or_minus false e no_ = e

    by : (o : Opening) → opening_of t ≡ o → IsOpening t o → (not (is_other o) || is_sign (codes "-") t) ≡ true → Begun (Phrases 0) (t ∷ [])
    by openings.Number same word e = opening_begun openings.Number t word (λ q. absurd cc)
    by openings.Name same word e = opening_begun openings.Name t word (λ q. absurd cc)
    by openings.Group same word e = opening_begun openings.Group t word (λ q. absurd cc)
    by (openings.Truth value) same word e = opening_begun (openings.Truth value) t word (λ q. absurd cc)
    by (openings.Pair func) same word e = opening_begun (openings.Pair func) t word (λ q. absurd cc)
    by openings.Abs same word e = opening_begun openings.Abs t word (λ q. absurd cc)
    by openings.Clamp same word e = opening_begun openings.Clamp t word (λ q. absurd cc)
    by openings.Rescale same word e = opening_begun openings.Rescale t word (λ q. absurd cc)
    by openings.Other same word e = minus_begun t (sign_ok (codes "-") t e)

abbrev negative : (t : Lexeme) → IsSign (codes "-") t → Phrased 0 → Phrased 0
negative t word p = record { phrase = a_minus t p.phrase; is = (word, p.is, omega (arith, p.low)); low = omega arith }

negated_stops : (room : ℕ) (t : Lexeme) → IsSign (codes "-") t → (operand : Reader) → (nat_lt room 2 ≡ false → Stops (Phrases 0) operand)
    → (ts : List Lexeme) (e : Fault × List Lexeme) → minus_at room t operand ts ≡ Err e → Stop (Phrases 0) e (t ∷ ts)
unfolding minus_at
negated_stops room t word operand stops ts e eq =
    stop_behind t (negative t word) (λ p behind. refl) e ts (by (begins is_number ts) (nat_lt room 2) refl refl eq)
  where
    no_room : (us : List Lexeme) → err {A = Part} (if begins_unary us then deep else stuck, us) ≡ Err e → Stop (Phrases 0) e us
    no_room [] e1 = stays_at (some_phrase 0) [] e cc
    no_room (u ∷ us) e1 = this (begins_unary (u ∷ us)) refl e1
      where
        this : (b : Bool) → begins_unary (u ∷ us) ≡ b → err {A = Part} (if b then deep else stuck, u ∷ us) ≡ Err e → Stop (Phrases 0) e (u ∷ us)
        this true is e2 = too_deep u (begun_operand u us is) us e cc
        this false is e2 = stays_at (some_phrase 0) (u ∷ us) e cc

    by : (b c : Bool) → begins is_number ts ≡ b → nat_lt room 2 ≡ c
        → cond b (negative_at t ts >>= λ n. Ok (leaf (number n.0), n.1))
        (cond c (Err (if begins_unary ts then deep else stuck, ts)) (above (λ p. over (negated p.tree t.at) p.levels) (operand ts))) ≡ Err e
        → Stop (Phrases 0) e ts
    by true c is small e1 =
        stop_inside (λ n. record { phrase = a_number n.token; is = n.is; low = omega arith }) (λ n behind. refl) e ts
        (last_stops {s = spelled_number} (token_stops is_number (negative_literal t) (begun_by digits (digits.token ∷ []) (refl, tt) (λ behind. refl)))
        (λ x. (_, refl)) ts e e1)
    by false true is small e1 = no_room ts e1
    by false false is small e1 = last_stops (stops small) (λ x. (_, refl)) ts e e1

module _ (r : ℕ) (held : Bool) (below : ℕ → Reader) (inner : Reader) (low : (k : ℕ) → Reads k r false (below k))
    (within_reads : Reads 7 (room_inside r held) true inner)
    (low_stops : (k : ℕ) → 1 ≤ r → Stops (Phrases k) (below k)) (inner_stops : (held ≡ true → 1 ≤ r) → Stops (Phrases 7) inner) where
  abbrev around : Around
  around = around_of r held below inner

  argument_twin : nat_lt (suc r) 2 ≡ false → Twin (Phrases 7) (below 7)
  argument_twin small = phrase_twin 7 (below 7) (low_stops 7 (room_for r small))

  held_stops : (b : Bool) → held ≡ b → (t : Lexeme) → IsSign (codes "(") t → (ts : List Lexeme) (e : Fault × List Lexeme)
      → held_group (suc r) b inner (t ∷ ts) ≡ Err e → Stop (Phrases 0) e (t ∷ ts)
  held_stops true is t word ts e eq =
      within_stops (suc r) t ts (group_at inner (t ∷ ts)) e (opening_begun openings.Group t word (λ q. absurd cc))
      (λ small e1. group_stops inner (room_inside r held) true within_reads (inner_stops (λ _. room_for r small)) t word ts e e1) eq
  held_stops false is t word ts e eq = group_stops inner (room_inside r held) true within_reads (inner_stops (λ yes_. absurd cc)) t word ts e eq

  atom_stops : (o : Opening) (t : Lexeme) (ts : List Lexeme) (e : Fault × List Lexeme) → IsOpening t o → atom_from o around (t ∷ ts) ≡ Err e
      → Stop (Phrases 0) e (t ∷ ts)
  unfolding atom_from truth_part
  atom_stops openings.Number t ts e word eq = number_stops (t ∷ ts) e eq
  atom_stops openings.Name t ts e word eq = named_stops (t ∷ ts) e eq
  atom_stops openings.Group t ts e word eq = held_stops held refl t word ts e eq
  atom_stops (openings.Truth value) t ts e word eq = absurd cc
  atom_stops (openings.Pair func) t ts e word eq =
      within_stops (suc r) t ts _ e (opening_begun (openings.Pair func) t word (λ q. absurd cc))
      (λ small e1. pair_stops r (below 7) (low 7) (argument_twin small) func t word ts e e1) eq
  atom_stops openings.Abs t ts e word eq =
      within_stops (suc r) t ts _ e (opening_begun openings.Abs t word (λ q. absurd cc))
      (λ small e1. abs_stops r (below 7) (low 7) (argument_twin small) t word ts e e1) eq
  atom_stops openings.Clamp t ts e word eq =
      within_stops (suc r) t ts _ e (opening_begun openings.Clamp t word (λ q. absurd cc))
      (λ small e1. clamp_stops r (below 7) (low 7) (argument_twin small) t word ts e e1) eq
  atom_stops openings.Rescale t ts e word eq =
      within_stops (suc r) t ts _ e (opening_begun openings.Rescale t word (λ q. absurd cc))
      (λ small e1. rescale_stops r (below 7) (low 7) (argument_twin small) t word ts e e1) eq
  atom_stops openings.Other t ts e word eq = stays_at (some_phrase 0) (t ∷ ts) e cc

  unary_stops : Stops (Phrases 0) (unary_at around)
  unfolding unary_at atom_at atom_from
  unary_stops [] e eq = stays_at (some_phrase 0) [] e cc
  unary_stops (t ∷ ts) e eq = by (is_sign (codes "-") t) refl eq
    where
      by : (b : Bool) → is_sign (codes "-") t ≡ b → cond b (minus_at (suc r) t (below 0) ts) (atom_from (opening_of t) around (t ∷ ts)) ≡ Err e
          → Stop (Phrases 0) e (t ∷ ts)
      by true is e1 = negated_stops (suc r) t (sign_ok (codes "-") t is) (below 0) (λ small. low_stops 0 (room_for r small)) ts e e1
      by false is e1 = atom_stops (opening_of t) t ts e (opening_tells t) e1

  denied_stops : (t : Lexeme) → IsKeyword (codes "not") t → 1 ≤ r → (ts : List Lexeme) (e : Fault × List Lexeme) → denied_at (below 4) (t ∷ ts) ≡ Err e
      → Stop (Phrases 4) e (t ∷ ts)
  unfolding denied_at
  denied_stops t word room ts e eq =
      stop_behind t (λ p. record { phrase = a_not t p.phrase; is = (word, p.is, p.low); low = omega arith }) (λ p behind. refl) e ts
      (last_stops (low_stops 4 room) (λ x. (_, refl)) ts e eq)

  denial_begun : (t : Lexeme) → IsKeyword (codes "not") t → Begun (Phrases 4) (t ∷ [])
  denial_begun t word =
      record {
        form = record { phrase = a_not t (a_name name.token); is = (word, name.is, omega arith); low = omega arith };
        more = name.token ∷ [];
        real = (refl, tt);
        spells = λ behind. refl;
      }

  denial_stops : (next : Reader) → Stops (Phrases 3) next → Stops (Phrases 4) (denial_at (suc r) (below 4) next)
  unfolding denial_at
  denial_stops next stops [] e eq = stop_inside (looser (omega arith)) (λ p behind. refl) e [] (stops [] e eq)
  denial_stops next stops (t ∷ ts) e eq = by (is_keyword (codes "not") t) refl eq
    where
      by : (b : Bool) → is_keyword (codes "not") t ≡ b → cond b (within (suc r) (t ∷ ts) (denied_at (below 4) (t ∷ ts))) (next (t ∷ ts)) ≡ Err e
          → Stop (Phrases 4) e (t ∷ ts)
      by true is e1 =
          let word = keyword_ok (codes "not") t is in
          within_stops (suc r) t ts _ e (denial_begun t word) (λ small e2. denied_stops t word (room_for r small) ts e e2) e1
      by false is e1 = stop_inside (looser (omega arith)) (λ p behind. refl) e (t ∷ ts) (stops (t ∷ ts) e e1)

  choice_begun : (t : Lexeme) → IsKeyword (codes "if") t → Begun (Phrases 7) (t ∷ [])
  choice_begun t word =
      let then_ = keyword (codes "then") in
      let else_ = keyword (codes "else") in
      record {
        form =
            record {
              phrase = an_if t (a_name name.token) then_.token (a_name name.token) else_.token (a_name name.token);
              is = (word, name.is, then_.is, name.is, else_.is, name.is);
              low = omega arith;
            };
        more = name.token ∷ then_.token ∷ name.token ∷ else_.token ∷ name.token ∷ [];
        real = (refl, (refl, (refl, (refl, (refl, tt)))));
        spells = λ behind. refl;
      }

  choice_stops : (next : Reader) → Stops (Phrases 6) next → Stops (Phrases 7) (choice_at (suc r) (below 7) next)
  unfolding choice_at
  choice_stops next stops [] e eq = stop_inside (looser (omega arith)) (λ p behind. refl) e [] (stops [] e eq)
  choice_stops next stops (t ∷ ts) e eq = by (is_keyword (codes "if") t) refl eq
    where
      by : (b : Bool) → is_keyword (codes "if") t ≡ b → cond b (within (suc r) (t ∷ ts) (chosen_at (below 7) (t ∷ ts))) (next (t ∷ ts)) ≡ Err e
          → Stop (Phrases 7) e (t ∷ ts)
      by true is e1 =
          let word = keyword_ok (codes "if") t is in
          within_stops (suc r) t ts _ e (choice_begun t word) (λ small e2. chosen_stops r (below 7) (low 7) (argument_twin small) t word ts e e2) e1
      by false is e1 = stop_inside (looser (omega arith)) (λ p behind. refl) e (t ∷ ts) (stops (t ∷ ts) e e1)

-- chains of operators
module _ (r k : ℕ) (right : Reader) (reads : Reads k r false right) (right_stops : 1 ≤ r → Stops (Phrases k) right) where
  -- a phrase of which an operator of this tier may go on
  record Left (n : ℕ) : Type 0 where
    phrase : Phrase
    is : IsPhrase phrase
    low : tier_of phrase ≤ suc k
    left : 1 ≤ n → tier_of phrase ≤ left_tier (suc k)

  abbrev joined_phrase : {n : ℕ} (f : Left (suc n)) (op : Op) (t : Lexeme) → IsInfix (Joins op) t → tier_of_op op ≡ suc k → Phrased k → Phrased (suc k)
  joined_phrase f op t word tier g = record {
    phrase = a_join op f.phrase t g.phrase;
    is = (f.is, subst (λ j. tier_of f.phrase ≤ left_tier j) (sym tier) (f.left (omega arith)), word, g.is, omega (arith, g.low, tier));
    low = omega (arith, tier);
  }

  abbrev rest_phrase : {n : ℕ} (f : Left (suc n)) (t : Lexeme) → IsInfix Rests t → 1 ≡ suc k → Digits → Phrased (suc k)
  rest_phrase f t word tier n = record { phrase = a_rest f.phrase t n.token; is = (f.is, omega (arith, f.low, tier), word, n.is); low = omega (arith, tier) }

  -- what stands behind a phrase and an operator
  behind_operator : (f : Phrase) (t : Lexeme) → Appends (λ us. spelled f (t ∷ us))
  behind_operator f t us vs = spelled_append f (t ∷ us) vs

  abbrev next_left : {n : ℕ} → (suc k ≡ 3 → suc n ≤ 1) → Phrased (suc k) → Left n
  next_left {n} once_ p = record {
    phrase = p.phrase;
    is = p.is;
    low = p.low;
    left = λ more. elim (cases_Bool (suc k == 3)) [
      | inl three ↦ (let at : suc k ≡ 3 = grind (arith, nat_tests) in let few = once_ at in absurd (omega (arith, few, more)))
      | inr other ↦ rw other p.low
    ];
  }

  operator_begun : {n : ℕ} (f : Left (suc n)) (o : Infix) (t : Lexeme) → IsInfix o t → tier_of_infix o ≡ suc k → (ts : List Lexeme) (e : Fault × List Lexeme)
      → (deep, t ∷ ts) ≡ e → Stop (Phrases (suc k)) e (spelled f.phrase (t ∷ ts))
  operator_begun f (Joins op) t word tier ts e is =
      stop_in (spelled f.phrase) (spelled_append f.phrase) (joined_phrase f op t word tier) (λ g behind. refl) e (t ∷ ts)
      (too_deep {s = λ g behind. t ∷ spelled_phrased {tier = k} g behind} t (begun_behind t (some_phrase k)) ts e is)
  operator_begun f Rests t word tier ts e is =
      stop_in (spelled f.phrase) (spelled_append f.phrase) (rest_phrase f t word tier) (λ g behind. refl) e (t ∷ ts)
      (too_deep {s = λ g behind. t ∷ spelled_number g behind} t (begun_behind t number_twin.some) ts e is)

  abbrev ChainStops : ℕ → Type 0
  ChainStops n =
      (suc k ≡ 3 → n ≤ 1) → (f : Left n) (ts : List Lexeme) (e : Fault × List Lexeme) → chain_at n (suc r) (suc k) right (part_of f.phrase) ts ≡ Err e
      → Stop (Phrases (suc k)) e (spelled f.phrase ts)

  turn_stops : (n : ℕ) → ChainStops n → (suc k ≡ 3 → suc n ≤ 1) → 1 ≤ r → (f : Left (suc n)) (o : Infix) (t : Lexeme) → IsInfix o t → tier_of_infix o ≡ suc k
      → (us : List Lexeme) (e : Fault × List Lexeme)
      → (joined_at o right (part_of f.phrase) (t ∷ us) >>= λ p. chain_at n (suc r) (suc k) right p.0 p.1) ≡ Err e
      → Stop (Phrases (suc k)) e (spelled f.phrase (t ∷ us))
  unfolding joined_at operation_at remainder_at
  turn_stops n later once_ room f (Joins op) t word tier us e eq = by (right us) refl eq
    where
      by : (m : Read Part) → right us ≡ m → ((m >>= λ x. Ok (over (binary op (tree_of f.phrase) x.0.tree t.at) (max (levels_of f.phrase) x.0.levels), x.1)) >>=
          λ p. chain_at n (suc r) (suc k) right p.0 p.1) ≡ Err e
          → Stop (Phrases (suc k)) e (spelled f.phrase (t ∷ us))
      by (Err d) is e1 =
          let same : d ≡ e = cc in
          stop_in (λ ws. spelled f.phrase (t ∷ ws)) (behind_operator f.phrase t) (joined_phrase f op t word tier) (λ g behind. refl) e us
          (subst (λ z. Stop (Phrases k) z us) same (right_stops room us d is))
      by (Ok x) is e1 =
          let g = reads us x is in
          let one : Phrased k = record { phrase = g.phrase; is = g.is; low = g.low } in
          let p = joined_phrase f op t word tier one in
          let e2 : chain_at n (suc r) (suc k) right (part_of p.phrase) x.1 ≡ Err e =
          subst (λ (q : Part). chain_at n (suc r) (suc k) right (over (binary op (tree_of f.phrase) q.tree t.at) (max (levels_of f.phrase) q.levels)) x.1
          ≡ Err e) g.part e1 in
          subst (λ ws. Stop (Phrases (suc k)) e (spelled f.phrase (t ∷ ws))) (sym g.tokens)
          (later (λ three. omega (arith, once_ three)) (next_left once_ p) x.1 e e2)
  turn_stops n later once_ room f Rests t word tier us e eq = by (number_at us) refl eq
    where
      by : (m : Read Lit) → number_at us ≡ m → ((m >>= λ x. Ok (over (rest (tree_of f.phrase) x.0 t.at) (levels_of f.phrase), x.1)) >>= λ p.
          chain_at n (suc r) (suc k) right p.0 p.1) ≡ Err e
          → Stop (Phrases (suc k)) e (spelled f.phrase (t ∷ us))
      by (Err d) is e1 =
          let same : d ≡ e = cc in
          stop_in (λ ws. spelled f.phrase (t ∷ ws)) (behind_operator f.phrase t) (rest_phrase f t word tier) (λ g behind. refl) e us
          (subst (λ z. Stop spelled_number z us) same (number_twin.stops us d is))
      by (Ok x) is e1 =
          let n_ = number_sound us x is in
          let p = rest_phrase f t word tier n_.0 in
          let e2 : chain_at n (suc r) (suc k) right (part_of p.phrase) x.1 ≡ Err e =
          subst (λ (l : Lit). chain_at n (suc r) (suc k) right (over (rest (tree_of f.phrase) l t.at) (levels_of f.phrase)) x.1 ≡ Err e) n_.3 e1 in
          subst (λ ws. Stop (Phrases (suc k)) e (spelled f.phrase (t ∷ ws))) (sym n_.2)
          (later (λ three. omega (arith, once_ three)) (next_left once_ p) x.1 e e2)

  abbrev chain_turn : ℕ → Phrase → List Lexeme → Infix → Read Part
  chain_turn n f ts o = joined_at o right (part_of f) ts >>= λ p. chain_at n (suc r) (suc k) right p.0 p.1

  chain_goes : (n : ℕ) → ChainStops n → (suc k ≡ 3 → suc n ≤ 1) → (f : Left (suc n)) (ts : List Lexeme) (e : Fault × List Lexeme) (m : Option Infix) (b : Bool)
      → infix_at (suc k) ts ≡ m → nat_lt (levels_of f.phrase) (suc r) ≡ b
      → gone_on (suc r) (chain_turn n f.phrase ts) m (part_of f.phrase) ts ≡ Err e → Stop (Phrases (suc k)) e (spelled f.phrase ts)
  chain_goes n later once_ f ts e None b is small e1 = absurd cc
  chain_goes n later once_ f [] e (Some o) b is small e1 = absurd (infix_end (suc k) o is)
  chain_goes n later once_ f (t ∷ us) e (Some o) true is small e1 =
      let word = infix_ok (suc k) t us o is in
      let e2 : chain_turn n f.phrase (t ∷ us) o ≡ Err e = ap (λ c. cond c (chain_turn n f.phrase (t ∷ us) o) (err (deep, t ∷ us))) (sym small) ∙ e1 in
      let some_ = some_levels f.phrase in
      let room : 1 ≤ r = grind (arith, nat_tests) in
      turn_stops n later once_ room f o t word.0 word.1 us e e2
  chain_goes n later once_ f (t ∷ us) e (Some o) false is small e1 =
      let word = infix_ok (suc k) t us o is in
      let e2 : err {A = Part} (deep, t ∷ us) ≡ Err e = ap (λ c. cond c (chain_turn n f.phrase (t ∷ us) o) (err (deep, t ∷ us))) (sym small) ∙ e1 in
      operator_begun f o t word.0 word.1 us e cc

  chain_stops : (n : ℕ) → ChainStops n
  unfolding chain_at
  chain_stops zero once_ f ts e eq = absurd cc
  chain_stops (suc n) once_ f ts e eq = chain_goes n (chain_stops n) once_ f ts e (infix_at (suc k) ts) (nat_lt (levels_of f.phrase) (suc r)) refl refl eq

  chain_tier_stops : (held : Bool) (here : Reader) → Reads k (suc r) held here → Stops (Phrases k) here
      → Stops (Phrases (suc k)) (λ ts. here ts >>= λ p. chain_at (turns (suc k) (suc r)) (suc r) (suc k) right p.0 p.1)
  chain_tier_stops held here reads_here stops ts e eq = by (here ts) refl eq
    where
      by : (m : Read Part) → here ts ≡ m → (m >>= λ p. chain_at (turns (suc k) (suc r)) (suc r) (suc k) right p.0 p.1) ≡ Err e → Stop (Phrases (suc k)) e ts
      by (Err d) is e1 =
          let same : d ≡ e = cc in stop_inside (looser (omega arith)) (λ p behind. refl) e ts (subst (λ z. Stop (Phrases k) z ts) same (stops ts d is))
      by (Ok x) is e1 =
          let g = reads_here ts x is in
          let f : Left (turns (suc k) (suc r)) = record {
            phrase = g.phrase;
            is = g.is;
            low = omega (arith, g.low);
            left = λ _. left_least k (tier_of g.phrase) g.low;
          } in
          let e2 : chain_at (turns (suc k) (suc r)) (suc r) (suc k) right (part_of g.phrase) x.1 ≡ Err e =
          subst (λ (q : Part). chain_at (turns (suc k) (suc r)) (suc r) (suc k) right q x.1 ≡ Err e) g.part e1 in
          subst (Stop (Phrases (suc k)) e) (sym g.tokens) (chain_stops (turns (suc k) (suc r)) (once (suc k) (suc r)) f x.1 e e2)

-- one of two, by a test that is known
by_test : {F A : Type 0} {s : Spelling F} (b : Bool) (m n : List Lexeme → Read A) → (b ≡ true → Stops s m) → (b ≡ false → Stops s n)
    → Stops s (λ ts. cond b (m ts) (n ts))
by_test true m n f g ts e eq = f refl ts e eq
by_test false m n f g ts e eq = g refl ts e eq

-- the tiers, one above the other
tier_stops : (k r : ℕ) (held : Bool) (below : ℕ → Reader) (inner : Reader) → ((j : ℕ) → Reads j r false (below j)) → Reads 7 (room_inside r held) true inner
    → ((j : ℕ) → 1 ≤ r → Stops (Phrases j) (below j)) → ((held ≡ true → 1 ≤ r) → Stops (Phrases 7) inner)
    → Stops (Phrases k) (tier_at k (around_of r held below inner))
unfolding tier_at
tier_stops zero r held below inner low reads low_stops inner_stops ts e eq = unary_stops r held below inner low reads low_stops inner_stops ts e eq
tier_stops (suc k) r held below inner low reads low_stops inner_stops ts e eq =
    let a : Around = around_of r held below inner in
    let lower : Stops (Phrases k) (tier_at k a) = tier_stops k r held below inner low reads low_stops inner_stops in
    by_test (k == 3) _ _
    (λ is.
    let at : k ≡ 3 = grind (arith, nat_tests) in
    stops_inside (looser (omega arith)) (λ p behind. refl) (denial_stops r held below inner low reads low_stops inner_stops (tier_at k a)
    (stops_inside (looser (omega arith)) (λ p behind. refl) lower)))
    (λ _.
    by_test (k == 6) _ _
    (λ is.
    let at : k ≡ 6 = grind (arith, nat_tests) in
    stops_inside (looser (omega arith)) (λ p behind. refl) (choice_stops r held below inner low reads low_stops inner_stops (tier_at k a)
    (stops_inside (looser (omega arith)) (λ p behind. refl) lower)))
    (λ _. chain_tier_stops r k (below k) (low k) (low_stops k) held (tier_at k a) (tier_ok k r held below inner low reads) lower)) ts e eq

part_stops : (room : ℕ) → 1 ≤ room → (held : Bool) (tier : ℕ) → Stops (Phrases tier) (part_at room held tier)
unfolding part_at
part_stops zero some held tier = absurd (omega (arith, some))
part_stops (suc r) some true tier =
    tier_stops tier r true (part_at r false) (part_at r true 7) (part_ok r false) (part_ok r true 7) (λ j more. part_stops r more false j)
    (λ more. part_stops r (more refl) true 7)
part_stops (suc r) some false tier =
    tier_stops tier r false (part_at r false) (λ us. tier_at 7 (around_of r true (part_at r false) (part_at r true 7)) us) (part_ok r false)
    (tier_ok 7 r true (part_at r false) (part_at r true 7) (part_ok r false) (part_ok r true 7)) (λ j more. part_stops r more false j)
    (λ _. tier_stops 7 r true (part_at r false) (part_at r true 7) (part_ok r false) (part_ok r true 7) (λ j more. part_stops r more false j)
    (λ more. part_stops r (more refl) true 7))

-- an expression, where it has some room
pub tree_twin : (room : ℕ) → Twin spelled_expression (tree_at (suc room))
unfolding tree_at expression_at
tree_twin room = record {
  appends = λ e. spelled_append e.phrase;
  some = inside (λ (p : Phrased 7). record { phrase = p.phrase; is = p.is }) (λ p behind. refl) (some_phrase 7);
  stops =
      stops_inside (λ (p : Phrased 7). record { phrase = p.phrase; is = p.is }) (λ p behind. refl)
      (last_stops (part_stops (suc room) (omega arith) false 7) (λ x. (_, refl)));
}
